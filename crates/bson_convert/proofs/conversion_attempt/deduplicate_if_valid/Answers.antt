use Rattle.std.proofs.Common.{◌≡◌, arith, subst, sym}
use Rattle.std.specs.Prelude.{IsUtf8, string_bytes}
use Rattle.serde_json.specs.Read.{read}
use Rattle.bson_convert.proofs.Normalized.{refused_alike}
use Rattle.bson_convert.specs.Convert.{IsAccepted}
use Rattle.bson_convert.proofs.conversion_attempt.deduplicate_if_valid.Goals as goal

pub returns-in-Ok-clause-ok : goal.returns-in-Ok-clause-ok
returns-in-Ok-clause-ok c =
    let whole : c.as_str.result.now ≡ string_bytes c.in_ok-normalized.normalized = grind arith in
    subst (IsAccepted c.args.options) whole c.in-Ok.ensures.ok

pub returns-in-Err-clause-fault : goal.returns-in-Err-clause-fault
returns-in-Err-clause-fault c =
    let text = c.args.text.now in
    let normalized = c.as_str.result.now in
    let whole : normalized ≡ string_bytes c.in_ok-normalized.normalized = grind arith in
    let same = subst (λ s. read s ≡ read text) (sym whole) c.in_ok-normalized.ensures.same in
    let utf8 : IsUtf8 text = grind arith in
    let valid : IsUtf8 normalized = grind arith in
    refused_alike c.args.options text normalized utf8 same c.in-Err.fault valid c.in-Err.ensures.fault
