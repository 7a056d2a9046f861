use Rattle.std.proofs.Common.{◌≡◌, ◌+◌, ◌*◌, ◌%◌, ◌^◌, length, ap, ◌∙◌, add-one, get_or, arith}
use Rattle.std.specs.Int.Bits.{bit_or}
use Rattle.std.specs.Option.{unwrap_or}
use Rattle.std.specs.Prelude.{min}
use Rattle.bson_text.specs.KeyBytes.{bytes_as_number, common_prefix_end}
use Rattle.bson_text.proofs.member_spans.next_eight_bytes.Goals as goal

pub bytes-preserved : goal.bytes-preserved
bytes-preserved c =
    let i = c.bytes.position in
    let k = c.args.key.now in
    let bytes = c.as_bytes-bytes.ensures.value in
    let start : c.min-start.result ≡ common_prefix_end c.args.prefix_length k =
    c.min-start.ensures ∙ ap (λ l. min c.args.prefix_length (length l)) bytes in
    let byte : c.unwrap_or-byte.result ≡ get_or k (common_prefix_end c.args.prefix_length k + i) 0 =
    c.unwrap_or-byte.ensures ∙ ap (λ o. unwrap_or o 0) c.copied.ensures ∙ c.get.ensures.lookup.4 (omega arith) 0
    ∙ ap (λ n. get_or c.as_bytes-bytes.result.now (n + i) 0) start
    ∙ ap (λ l. get_or l (common_prefix_end c.args.prefix_length k + i) 0) bytes in
    rw (add-one i) (ap (λ h. bit_or (h * 256 % 2 ^ 64) c.unwrap_or-byte.result) c.bytes.invariant
    ∙ ap (bit_or (bytes_as_number k (common_prefix_end c.args.prefix_length k) i * 256 % 2 ^ 64)) byte)
