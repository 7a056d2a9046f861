use Rattle.std.proofs.Common.{◌≡◌, sym, subst, arith}
use Rattle.std.specs.Prelude.{string_bytes}
use Rattle.bson_tokens.specs.Normalized.{IsNormalizedText}
use Rattle.bson_codec.proofs.Normalized.{packed_alike}
use Rattle.bson_codec.proofs.pack.pack_normalized.Goals as goal

pub returns : goal.returns
returns c =
    let o = c.args.options in
    let text = c.args.text.now in
    let normalized = c.as_str.result.now in
    let same : normalized ≡ string_bytes c.in_ok-normalized.normalized = grind arith in
    let is = subst (λ s. IsNormalizedText o.key_order text s) (sym same) c.in_ok-normalized.ensures.ok in
    record {
      ok = packed_alike o.key_order o.doubles text normalized c.try_pack.result c.utf8.text is c.try_pack.ensures.ok;
    }
