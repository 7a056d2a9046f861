use Rattle.std.proofs.Common.{◌≡◌, ◌*◌, ◌%◌, ◌^◌, ap, ◌∙◌, add-one, get_or, arith}
use Rattle.std.specs.Int.Bits.{bit_or}
use Rattle.std.specs.Option.{unwrap_or}
use Rattle.bson_tokens.specs.KeyPrefix.{key_prefix_number}
use Rattle.bson_tokens.proofs.key_prefix.prefix_of.Goals as goal

pub bytes-preserved : goal.bytes-preserved
bytes-preserved c =
    let i = c.bytes.byte_index in
    let byte : c.unwrap_or-byte.result ≡ get_or c.args.key.now i 0 =
    c.unwrap_or-byte.ensures ∙ ap (λ o. unwrap_or o 0) c.copied.ensures ∙ c.get.ensures.lookup.4 (omega arith) 0 in
    rw (add-one i) (ap (λ p. bit_or (p * 256 % 2 ^ 128) c.unwrap_or-byte.result) c.bytes.invariant
    ∙ ap (bit_or (key_prefix_number c.args.key.now i * 256 % 2 ^ 128)) byte)
