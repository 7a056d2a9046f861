use Rattle.std.proofs.Common.{◌≡◌, ℕ, List, refl}
use Rattle.std.specs.Prelude.{codes}
use Rattle.std.proofs.lemmas.Bool.{false≢true}
use Rattle.bson_decimal.specs.DecimalStrings.{IsNanOrInfinityWord, nan, snan, infinity, inf, lowercase}
use Rattle.bson_decimal.proofs.parse.nan_or_infinity_bits.Goals as goal

pub returns-then-eq_ignore_ascii_case-clause-word : goal.returns-then-eq_ignore_ascii_case-clause-word
returns-then-eq_ignore_ascii_case-clause-word c = nan (c.if-eq_ignore_ascii_case.ensures.test.0 refl)

pub returns-then-eq_ignore_ascii_case-2-clause-word : goal.returns-then-eq_ignore_ascii_case-2-clause-word
returns-then-eq_ignore_ascii_case-2-clause-word c = snan (c.if-eq_ignore_ascii_case-2.ensures.test.0 refl)

pub returns-then-eq_ignore_ascii_case-3-clause-word : goal.returns-then-eq_ignore_ascii_case-3-clause-word
returns-then-eq_ignore_ascii_case-3-clause-word c = infinity (c.if-eq_ignore_ascii_case-3.ensures.test.0 refl)

pub returns-then-eq_ignore_ascii_case-4-clause-word : goal.returns-then-eq_ignore_ascii_case-4-clause-word
returns-then-eq_ignore_ascii_case-4-clause-word c = inf (c.if-eq_ignore_ascii_case-4.ensures.test.0 refl)

none-of : (word : List ℕ) → ¬ (lowercase word ≡ codes "nan") → ¬ (lowercase word ≡ codes "snan")
    → ¬ (lowercase word ≡ codes "infinity") → ¬ (lowercase word ≡ codes "inf") → (n : ℕ) → ¬ (IsNanOrInfinityWord word n)
none-of word a b c d n (nan e) = a e
none-of word a b c d n (snan e) = b e
none-of word a b c d n (infinity e) = c e
none-of word a b c d n (inf e) = d e

pub returns-clause-word : goal.returns-clause-word
returns-clause-word c =
    none-of c.args.unsigned_text.now (λ e. false≢true (c.if-eq_ignore_ascii_case.ensures.test.1 e))
    (λ e. false≢true (c.if-eq_ignore_ascii_case-2.ensures.test.1 e))
    (λ e. false≢true (c.if-eq_ignore_ascii_case-3.ensures.test.1 e))
    (λ e. false≢true (c.if-eq_ignore_ascii_case-4.ensures.test.1 e))
