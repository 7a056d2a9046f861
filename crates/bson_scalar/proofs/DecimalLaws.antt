-- The decimal of a text, as a function.
use Rattle.std.proofs.Common.{◌≡◌, ℕ, ◌*◌, ◌^◌, List, Bool, true, false, cond, Option, Some, None, Result, Ok, Err}
use Rattle.std.proofs.Common.{refl, sym, ap, subst}
use Rattle.std.specs.Prelude.{option_map, codes}
use Rattle.std.specs.Result.{result_ok}
use Rattle.std.specs.Int.{w128, to_le_bytes}
use Rattle.std.specs.Str.{bytes_eq}
use Rattle.std.specs.Str.Parse.{without_leading_sign, starts_with_minus}
use Rattle.std.proofs.lemmas.Slice.Eq.{bytes_eq-Decides}
use Rattle.bson_decimal.specs.declared.ParseError.{ParseError}
use Rattle.bson_decimal.specs.ParseResult.{IsParseResult}
use Rattle.bson_decimal.specs.DecimalBits.{encoded_finite, canonical_decimal}
use Rattle.bson_decimal.specs.DecimalText.{decimal128_text as decimal_text}
use Rattle.bson_decimal.specs.ParseSteps.{finite}
use Rattle.bson_decimal.specs.DecimalStrings.{DenotesDecimal, IsNanOrInfinityWord, nan, snan, infinity, inf, lowercase}
use Rattle.bson_decimal.proofs.Offered.{special-parses, finite-parses, refused-parses, display_text-parses}
use Rattle.bson_decimal.proofs.Offered.{display_text-same, display_text-canon}
use Rattle.serde_json.specs.Data.{Data}
use Rattle.bson_scalar.specs.Means.{MeansScalar, number_decimal}
use Rattle.bson_scalar.specs.Reading.{nan_or_infinity_bits, special_or_finite_decimal, decimal_pattern, decimal_read}
use Rattle.bson_scalar.specs.Scalar.{Scalar}
use Rattle.bson_scalar.specs.TreeParts.{one_key_object}
use Rattle.bson_scalar.proofs.InverseLemmas.{means_by, un_ok, text_then, some_then}

same : (xs ys : List ℕ) → bytes_eq xs ys ≡ true → xs ≡ ys
same xs ys h = (bytes_eq-Decides xs ys).0 h

is_itself : (xs : List ℕ) → bytes_eq xs xs ≡ true
is_itself xs = (bytes_eq-Decides xs xs).1 refl

-- a word has the pattern of its text
abbrev WordIs : List ℕ → Option ℕ → Type 0
WordIs w None = (n : ℕ) → ¬ (IsNanOrInfinityWord w n)
WordIs w (Some n) = IsNanOrInfinityWord w n

no_word : (w : List ℕ) → bytes_eq (lowercase w) (codes "nan") ≡ false → bytes_eq (lowercase w) (codes "snan") ≡ false
    → bytes_eq (lowercase w) (codes "infinity") ≡ false → bytes_eq (lowercase w) (codes "inf") ≡ false
    → (n : ℕ) → ¬ (IsNanOrInfinityWord w n)
no_word w a b c d n (nan e) = let h = rw e at a in cc
no_word w a b c d n (snan e) = let h = rw e at b in cc
no_word w a b c d n (infinity e) = let h = rw e at c in cc
no_word w a b c d n (inf e) = let h = rw e at d in cc

word_is-at : (w : List ℕ) (a b c d : Bool) → bytes_eq (lowercase w) (codes "nan") ≡ a
    → bytes_eq (lowercase w) (codes "snan") ≡ b → bytes_eq (lowercase w) (codes "infinity") ≡ c
    → bytes_eq (lowercase w) (codes "inf") ≡ d
    → WordIs w (cond a (Some (124 * 2 ^ 120))
    (cond b (Some (126 * 2 ^ 120)) (cond c (Some (120 * 2 ^ 120)) (cond d (Some (120 * 2 ^ 120)) None))))
word_is-at w true b c d e f g h = nan (same _ _ e)
word_is-at w false true c d e f g h = snan (same _ _ f)
word_is-at w false false true d e f g h = infinity (same _ _ g)
word_is-at w false false false true e f g h = inf (same _ _ h)
word_is-at w false false false false e f g h = no_word w e f g h

word_is : (w : List ℕ) → WordIs w (nan_or_infinity_bits w)
word_is w = word_is-at w _ _ _ _ refl refl refl refl

-- the pattern is that of the text, and there is no other
abbrev Answers : List ℕ → Option (List ℕ) → Type 0
Answers s None = (b : List ℕ) → ¬ (DenotesDecimal s b)
Answers s (Some d) = DenotesDecimal s d × ((b : List ℕ) → DenotesDecimal s b → b ≡ d)

finite_answers : (s : List ℕ) → ((n : ℕ) → ¬ (IsNanOrInfinityWord (without_leading_sign s) n)) → (r : Result (ℕ × ℕ) ParseError)
    → finite (without_leading_sign s) ≡ r
    → Answers s (option_map (λ p. to_le_bytes w128 (encoded_finite (starts_with_minus s) p.0 p.1)) (result_ok r))
finite_answers s plain (Ok r) is = finite-parses s r plain is
finite_answers s plain (Err k) is = refused-parses s k plain is

answers_at : (s : List ℕ) (o : Option ℕ) → WordIs (without_leading_sign s) o → Answers s (special_or_finite_decimal s o)
answers_at s None plain = finite_answers s plain _ refl
answers_at s (Some n) word = special-parses s n word

answers : (s : List ℕ) → Answers s (decimal_pattern s)
unfolding decimal_pattern
answers s = answers_at s _ (word_is (without_leading_sign s))

from_answer : (s b : List ℕ) (o : Option (List ℕ)) → Answers s o → DenotesDecimal s b → o ≡ Some b
from_answer s b None h p = absurd (h b p)
from_answer s b (Some d) h p = ap Some (sym (h.1 b p))

to_answer : (s b : List ℕ) (o : Option (List ℕ)) → Answers s o → o ≡ Some b → DenotesDecimal s b
to_answer s b None h e = cc
to_answer s b (Some d) h e = let is : d ≡ b = cc in subst (DenotesDecimal s) is h.0

pub decimal_of-some : (s b : List ℕ) → DenotesDecimal s b → decimal_pattern s ≡ Some b
decimal_of-some s b p = from_answer s b _ (answers s) p

pub decimal_of-from : (s b : List ℕ) → decimal_pattern s ≡ Some b → DenotesDecimal s b
decimal_of-from s b e = to_answer s b _ (answers s) e

none_from : (s : List ℕ) (o : Option (List ℕ)) → Answers s o → ((b : List ℕ) → ¬ (DenotesDecimal s b)) → o ≡ None
none_from s None h never = refl
none_from s (Some d) h never = absurd (never d h.0)

-- what a parser of the text gives
pub parsed_decimal : (s : List ℕ) (r : Result (List ℕ) ParseError) → IsParseResult s r → result_ok r ≡ decimal_pattern s
parsed_decimal s (Ok d) h = sym (decimal_of-some s d h.0)
parsed_decimal s (Err k) h = sym (none_from s _ (answers s) h.0)

pub decimal_of-display_text : (b : List ℕ) → decimal_pattern (decimal_text b) ≡ Some (canonical_decimal b)
decimal_of-display_text b = decimal_of-some (decimal_text b) (canonical_decimal b) (display_text-parses b)

pub canon-again : (b : List ℕ) → canonical_decimal (canonical_decimal b) ≡ canonical_decimal b
canon-again b = (display_text-same (canonical_decimal b) b).0 (display_text-canon b)

pub decimal_from : (d : Data) (x : Scalar) → decimal_read d ≡ Ok x
    → MeansScalar (one_key_object (codes "$numberDecimal") d) x
decimal_from d x h =
    let t = text_then d _ x h in
    let b = some_then (decimal_pattern t.0) _ x t.2 in
    means_by (codes "$numberDecimal") d _ x _ t.1 (un_ok _ _ b.2) (number_decimal t.0 b.0 (decimal_of-from t.0 b.0 b.1))
