-- The shortest decimal of a finite double, computed.
use Rattle.std.proofs.Common.{◌≡◌, ℕ, zero, suc, Bool, true, false, not, ◌&&◌, Some, refl, ◌∙◌}
use Rattle.std.specs.Prelude.{codes}
use Rattle.std.proofs.lemmas.Bool.{and_parts}
use Rattle.bson_scalar.specs.Shortest.{finite_double_text, unsigned_text, highest_exponent, digits_at_exponent, either_multiple_rounds}

-- its power of ten is found from above: at none of the d powers below n is a multiple read
abbrev none_read : ℕ → ℕ → ℕ → Bool
none_read p zero n = true
none_read p (suc d) zero = true
none_read p (suc d) (suc n) = not (either_multiple_rounds p n) && none_read p d n

abbrev lower : ℕ → ℕ → ℕ
lower zero n = n
lower (suc d) zero = zero
lower (suc d) (suc n) = lower d n

step_below : (p n : ℕ) (b : Bool) → either_multiple_rounds p n ≡ b → not b ≡ true → highest_exponent p (suc n) ≡ highest_exponent p n
unfolding highest_exponent
step_below p n true e h = cc
step_below p n false e h = rw e refl

top_below : (p d n : ℕ) → none_read p d n ≡ true → highest_exponent p n ≡ highest_exponent p (lower d n)
top_below p zero n h = refl
top_below p (suc d) zero h = refl
top_below p (suc d) (suc n) h =
    let g = and_parts _ _ h in step_below p n (either_multiple_rounds p n) refl g.0 ∙ top_below p d n g.1

top_here : (p n : ℕ) → either_multiple_rounds p n ≡ true → highest_exponent p (suc n) ≡ n
unfolding highest_exponent
top_here p n h = rw h refl

-- 1.5 is 15 * 10 ^ 1099 / 10 ^ 1100
power_of_one_and_a_half : highest_exponent 0x3FF8000000000000 1500 ≡ 1099
unfolding lib.Ieee.round lib.Ieee.to_bits
power_of_one_and_a_half = top_below 0x3FF8000000000000 400 1500 refl ∙ top_here 0x3FF8000000000000 1099 refl

pub one_and_a_half : finite_double_text 0x3FF8000000000000 ≡ Some (codes "1.5")
unfolding finite_double_text unsigned_text digits_at_exponent lib.Ieee.round lib.Ieee.to_bits Rattle.std.specs.Fmt.digits
one_and_a_half = rw power_of_one_and_a_half refl
