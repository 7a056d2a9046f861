-- A number of spaces as a word.
use Rattle.std.proofs.Common.{◌≡◌, ◌≢◌, ◌<◌, ◌==◌, ◌||◌, ℕ, suc, zero, Bool, true, List, get_or, Result, Ok, Err, sym, ap, subst}
use Rattle.std.proofs.Common.{◌∙◌, ◌^◌, arith, lit<}
use Rattle.std.specs.Fmt.{decimal}
use Rattle.std.specs.Str.{all_ascii_digits}
use Rattle.std.specs.Str.Parse.{digits_value, ParsesUnsigned}
use Rattle.std.proofs.lemmas.Bool.Decides.{nat_tests}
use Rattle.std.proofs.lemmas.Fmt.{decimal-digits_value, decimal_digit, first_decimal, parse-decimal}
use Rattle.std.proofs.lemmas.Str.Parse.{IsNumeralModel, numerals_by_value, tells_all_ascii_digits, parse_plain}

own : IsNumeralModel (λ ds. all_ascii_digits ds ≡ true) (digits_value 10)
own = numerals_by_value _ tells_all_ascii_digits

positive : (word : List ℕ) (count : ℕ) → word ≡ decimal count → get_or word 0 0 ≢ 48 → 0 < count
positive word zero e other = absurd (other (ap (λ w. get_or w 0 0) (e ∙ decimal_digit 0 (lit< tt))))
positive word (suc n) e other = omega arith

pub is_count : {E : Type 0} (word : List ℕ) (r : Result ℕ E) (count : ℕ) → ParsesUnsigned 64 10 word r → r ≡ Ok count
    → get_or word 0 0 ≢ 43 → get_or word 0 0 ≢ 48 → (word ≡ decimal count) × (0 < count)
is_count {E} word (Err x) count h is plus other = absurd cc
is_count {E} word (Ok n) count h is plus other =
    let p = parse_plain own {E = E} 64 word (Ok n) h plus in
    let same : digits_value 10 word ≡ count = cc (p.1) in
    let e : word ≡ decimal count =
    sym (decimal-digits_value own word p.0.0 p.0.1 (λ z. absurd (other z)) p.0.2) ∙ ap decimal same in
    (e, positive word count e other)

pub reads_count : {E : Type 0} (word : List ℕ) (r : Result ℕ E) (count : ℕ) → ParsesUnsigned 64 10 word r
    → count < 2 ^ 64 → word ≡ decimal count → r ≡ Ok count
reads_count word r count h few e = parse-decimal 64 count word r few (omega arith) e h

pub begins_well : (word : List ℕ) (count : ℕ) → 0 < count → count < 2 ^ 64 → word ≡ decimal count → 48 < get_or word 0 0
begins_well word count some few e =
    subst (λ w. 48 < get_or w 0 0) (sym e) (first_decimal count some (omega arith))

pub not_so : (word : List ℕ) (b : Bool) → b ≡ ((get_or word 0 0 == 43) || (get_or word 0 0 == 48)) → b ≡ true
    → 48 < get_or word 0 0 → ⊥
not_so word b e is h = grind (arith, nat_tests)
