-- An int text, and what std's `parse` says of it.
use Rattle.std.proofs.Common.{◌≡◌, ℕ, ◌<◌, ◌^◌, List, length, Bool, true, false, cond, ℤ, pos, negsuc, Option, Some}
use Rattle.std.proofs.Common.{None, Result, Ok, Err, refl, sym, ap, subst}
use Rattle.std.proofs.lemmas.Bool.{ltb-true, lt-ltb, and_parts}
use Rattle.std.proofs.lemmas.Str.Parse.{IsNumeralModel, numerals_by_value, tells_all_ascii_digits}
use Rattle.std.specs.Prelude.{FitsSigned}
use Rattle.std.specs.Result.{result_ok}
use Rattle.std.specs.Str.{all_ascii_digits}
use Rattle.std.specs.Str.Parse.{IsNumeral, ParsesSigned, digits_value, signed_digits_value, without_leading_sign}
use lib.Signed.{mag}
use mir.Syntax.{Width}
use mir.Val.{hbits}
use Rattle.bson_scalar.specs.Ints.{IsIntText, fits_bits}
use Rattle.bson_scalar.specs.Reading.{parsed_int, is_numeral}

own : IsNumeralModel (λ ds. all_ascii_digits ds ≡ true) (digits_value 10)
own = numerals_by_value _ tells_all_ascii_digits

pub fits_true : (h : ℕ) (z : ℤ) → mag z < 2 ^ h → fits_bits h z ≡ true
fits_true h (pos n) m = lt-ltb n (2 ^ h) m
fits_true h (negsuc n) m = lt-ltb n (2 ^ h) m

pub fits_from : (h : ℕ) (z : ℤ) → fits_bits h z ≡ true → mag z < 2 ^ h
fits_from h (pos n) m = ltb-true n (2 ^ h) m
fits_from h (negsuc n) m = ltb-true n (2 ^ h) m

numeral_true : (ds : List ℕ) → IsNumeral 10 ds → is_numeral ds ≡ true
numeral_true ds h = rw (lt-ltb 0 (length ds) h.0) (own.from ds h.1)

numeral_from : (ds : List ℕ) → is_numeral ds ≡ true → IsNumeral 10 ds
numeral_from ds h = let p = and_parts _ _ h in (ltb-true 0 (length ds) p.0, own.to ds p.1)

chosen : (b : Bool) (z : ℤ) → (b ≡ true → ⊥) → cond b (Some z) None ≡ None
chosen true z h = absurd (h refl)
chosen false z h = refl

-- what `parse` answers at a signed type is what the definition says
pub parsed_signed : {E : Type 0} (w : Width) (bs : List ℕ) (r : Result ℤ E) → ParsesSigned w 10 bs r
    → result_ok r ≡ parsed_int (hbits w) bs
unfolding parsed_int
parsed_signed w bs (Ok x) h =
    let digits = numeral_true (without_leading_sign bs) h.0.0 in
    let fits = fits_true (hbits w) (signed_digits_value 10 bs) h.0.1.sfits in
    rw (digits, fits) (ap Some h.1)
parsed_signed w bs (Err e) h =
    sym (chosen _ _ (λ b. let p = and_parts _ _ b in
    h (numeral_from _ p.0, record { sfits = fits_from (hbits w) _ p.1 })))

guarded : (b : Bool) (y z : ℤ) → cond b (Some y) None ≡ Some z → (b ≡ true) × (z ≡ y)
guarded true y z h = (refl, cc)
guarded false y z h = cc

pub int_of_from : (w : Width) (s : List ℕ) (z : ℤ) → parsed_int (hbits w) s ≡ Some z → IsIntText w s z
unfolding parsed_int
int_of_from w s z h =
    let g = guarded _ _ z h in
    let p = and_parts _ _ g.0 in
    let fits : FitsSigned w (signed_digits_value 10 s) = record { sfits = fits_from (hbits w) _ p.1 } in
    (numeral_from _ p.0, g.1, subst (FitsSigned w) (sym g.1) fits)

pub int_of_some : (w : Width) (s : List ℕ) (z : ℤ) → IsIntText w s z → parsed_int (hbits w) s ≡ Some z
unfolding parsed_int
int_of_some w s z h =
    let fits : FitsSigned w (signed_digits_value 10 s) = subst (FitsSigned w) h.1 h.2 in
    rw (numeral_true (without_leading_sign s) h.0, fits_true (hbits w) (signed_digits_value 10 s) fits.sfits)
    (ap Some (sym h.1))

abbrev as_result : Option ℤ → Result ℤ (Unit {0})
as_result (Some z) = Ok z
as_result None = Err tt

parses_at : (w : Width) (b : Bool) (s : List ℕ)
    → (b ≡ true → IsNumeral 10 (without_leading_sign s) × FitsSigned w (signed_digits_value 10 s))
    → (IsNumeral 10 (without_leading_sign s) × FitsSigned w (signed_digits_value 10 s) → b ≡ true)
    → ParsesSigned w 10 s (as_result (cond b (Some (signed_digits_value 10 s)) None))
parses_at w true s to from = (to refl, refl)
parses_at w false s to from = λ p. let e = from p in cc

back_to_some : (o : Option ℤ) (z : ℤ) → as_result o ≡ Ok z → o ≡ Some z
back_to_some (Some y) z h = cc
back_to_some None z h = cc

-- what each parser of the text would give, the definition gives
pub int_of_parsed : (w : Width) (s : List ℕ) (z : ℤ) → ((r : Result ℤ (Unit {0})) → ParsesSigned w 10 s r → r ≡ Ok z)
    → parsed_int (hbits w) s ≡ Some z
unfolding parsed_int
int_of_parsed w s z each =
    back_to_some _ z (each _ (parses_at w _ s
    (λ b. let p = and_parts _ _ b in (numeral_from _ p.0, record { sfits = fits_from (hbits w) _ p.1 }))
    (λ p. rw (numeral_true (without_leading_sign s) p.0, fits_true (hbits w) (signed_digits_value 10 s) p.1.sfits)
    refl)))
