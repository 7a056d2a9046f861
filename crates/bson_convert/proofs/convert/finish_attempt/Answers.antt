use Rattle.std.proofs.Common.{◌≡◌, ℕ, List, sym, subst, arith}
use Rattle.std.specs.Prelude.{IsUtf8, string_bytes}
use Rattle.bson_tokens.proofs.Offered.{if_err, if_ok}
use Rattle.bson_tokens.specs.Normalized.{IsNormalizedText}
use Rattle.bson_convert.specs.Attempts.{IsAttemptResult, IsUtf8Attempt}
use Rattle.bson_convert.specs.Convert.{IsRejectedIn}
use Rattle.bson_convert.proofs.EitherOrder.{converted_alike_by}
use Rattle.bson_convert.proofs.convert.finish_attempt.Goals as goal

pub returns-in-Written-clause-ok : goal.returns-in-Written-clause-ok
returns-in-Written-clause-ok c = λ bytes is. subst (IsAttemptResult c.args.options c.args.mode bytes) c.in-Written.is is

pub returns-in-Written-clause-utf8 : goal.returns-in-Written-clause-utf8
returns-in-Written-clause-utf8 c = λ u. subst IsUtf8Attempt c.in-Written.is u

pub returns-in-Normalized : goal.returns-in-Normalized
returns-in-Normalized c =
    let o = c.args.options in
    let k = o.key_order in
    let mode = c.args.mode in
    let normalized = c.as_str.result.now in
    let whole : normalized ≡ string_bytes c.in-Normalized.normalized = grind arith in
    let attempt : (bytes : List ℕ) → IsAttemptResult o mode bytes c.args.attempt
    → IsUtf8 bytes × IsNormalizedText k bytes normalized = λ bytes is.
    let it = subst (IsAttemptResult o mode bytes) c.in-Normalized.is is in
    (it.0, subst (IsNormalizedText k bytes) (sym whole) it.1) in
    record {
      ok = λ bytes is. if_ok c.read_normalized.result c.read_normalized.ensures.ok
          (λ text x. converted_alike_by k o mode bytes normalized text.items (attempt bytes is).0 (attempt bytes is).1 x);
      utf8 = λ _. c.read_normalized.ensures.utf8;
      fault = λ bytes is. if_err c.read_normalized.result c.read_normalized.ensures.fault
          (λ f memory. subst (λ e. IsRejectedIn o e bytes) (sym memory) tt);
    }
