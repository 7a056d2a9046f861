use Rattle.std.proofs.Common.{IfOk, subst, sym}
use Rattle.std.specs.Prelude.{string_bytes}
use Rattle.bson_tokens.specs.Normalized.{IsNormalizedText}
use Rattle.bson_convert.proofs.conversion_attempt.normalize_if_valid.Goals as goal

pub returns-in-Ascending-clause-normalized : goal.returns-in-Ascending-clause-normalized
returns-in-Ascending-clause-normalized c =
    subst (λ k. IfOk c.sort_if_valid.result (λ normalized. IsNormalizedText k c.args.text.now (string_bytes normalized)))
    (sym c.in-Ascending.is) c.sort_if_valid.ensures.normalized

pub returns-in-AsGiven-clause-normalized : goal.returns-in-AsGiven-clause-normalized
returns-in-AsGiven-clause-normalized c =
    subst (λ k. IfOk c.deduplicate_if_valid.result
    (λ normalized. IsNormalizedText k c.args.text.now (string_bytes normalized)))
    (sym c.in-AsGiven.is) c.deduplicate_if_valid.ensures.normalized
