-- Where the nearest pair is, and where none fits.
use Rattle.std.proofs.Common.{◌≡◌, ℕ, ◌+◌, ◌-◌, ◌*◌, ◌%◌, ◌^◌, ◌<◌, ◌≤◌, inl, inr, refl, sym, ◌∙◌, arith}
use Rattle.std.proofs.lemmas.Bool.{cases_lt}
use Rattle.std.proofs.Math.Nat.{mul-mod_left, mul-le-mul_left}
use Rattle.bson_decimal.proofs.Shifted.{FitsShifted, IsNearestShifted}
use Rattle.bson_decimal.proofs.Tens.{tens-pos, tens-cancel, reach, raised, lowered, divided}

-- a coefficient of 34 + k digits moves every pair that fits up by k
pub fits-above : (m up down c e k : ℕ) → 10 ^ (33 + k) ≤ m → FitsShifted m up down c e → up + 6176 + k ≤ e + down
fits-above m up down c e k from f =
    omega (arith, reach 34 (33 + k) c (e + down) m (up + 6176) f.coefficient from f.equal)

-- k digits past the 34th were zeros and are dropped
pub nearest-dropped : (m up down c e k : ℕ) → m ≡ c * 10 ^ k → c < 10 ^ 34 → 10 ^ (33 + k) ≤ m → e < 12288
    → e + down ≡ up + 6176 + k → IsNearestShifted m up down c e
nearest-dropped m up down c e k is small from within at =
    record {
      fits = record { equal = rw at (raised c k m (up + 6176) is); coefficient = small; exponent = within };
      least = λ d f g. let lower = fits-above m up down d f k from g in omega arith;
    }

-- the exponent is the text's own
pub nearest-same : (m up down e : ℕ) → m < 10 ^ 34 → e < 12288 → e + down ≡ up + 6176 → IsNearestShifted m up down m e
nearest-same m up down e small within at =
    record {
      fits = record { equal = rw at refl; coefficient = small; exponent = within };
      least = λ d f g. omega arith;
    }

-- j zeros are dropped, down to the least exponent
pub nearest-lowest : (m up down c j : ℕ) → m ≡ c * 10 ^ j → c < 10 ^ 34 → down ≡ up + 6176 + j
    → IsNearestShifted m up down c 0
nearest-lowest m up down c j is small at =
    let low : 0 + down ≡ up + 6176 + j = omega arith in
    record {
      fits = record { equal = rw low (raised c j m (up + 6176) is); coefficient = small; exponent = omega arith };
      least = λ d f g. omega arith;
    }

-- j zeros are added, up to the greatest exponent
pub nearest-highest : (m up down j : ℕ) → m * 10 ^ j < 10 ^ 34 → up + 6176 ≡ 12287 + down + j
    → IsNearestShifted m up down (m * 10 ^ j) 12287
nearest-highest m up down j small at =
    record {
      fits = record { equal = lowered m j (12287 + down) (up + 6176) at; coefficient = small; exponent = omega arith };
      least = λ d f g. let within = g.exponent in omega arith;
    }

-- one digit past the 34th is not a zero
pub fits-exact : (m up down c e k : ℕ) → up + 6176 + k ≤ e + down → FitsShifted m up down c e → m % 10 ^ k ≡ 0
fits-exact m up down c e k above f =
    let d = e + down - (up + 6176 + k) in
    let at : e + down ≡ up + 6176 + k + d = omega arith in
    rw (divided c (e + down) m (up + 6176) k d at f.equal) (mul-mod_left _ _)

-- two nearest pairs are one
pub coefficient-one : (m up down c d e : ℕ) → FitsShifted m up down c e → FitsShifted m up down d e → c ≡ d
coefficient-one m up down c d e f g = tens-cancel c d (e + down) (f.equal ∙ sym g.equal)

between : (m up down c d e f : ℕ) → IsNearestShifted m up down c e → IsNearestShifted m up down d f → e < f → ⊥
between m up down c d e f a b lt =
    let one = a.least d f b.fits in
    let two = b.least c e a.fits in
    let low : e + down < up + 6176 = omega arith in
    let high : up + 6176 < f + down = omega arith in
    let j = up + 6176 - (e + down) in
    let at : up + 6176 ≡ e + down + j = omega arith in
    let c_is : c ≡ m * 10 ^ j =
    tens-cancel c (m * 10 ^ j) (e + down) (a.fits.equal ∙ sym (lowered m j (e + down) (up + 6176) at)) in
    let up_to : m * 1 ≤ m * 10 ^ j = mul-le-mul_left m (tens-pos j) in
    let small = a.fits.coefficient in
    let within = b.fits.exponent in
    let g = up + 6176 - down in
    let own = nearest-same m up down g (omega arith) (omega arith) (omega arith) in
    let zero_off = a.least m g own.fits in
    omega arith

pub nearest-one : (m up down c d e f : ℕ) → IsNearestShifted m up down c e → IsNearestShifted m up down d f
    → (c ≡ d) × (e ≡ f)
nearest-one m up down c d e f a b =
    elim (cases_lt e f) [
      | inl h ↦ absurd (between m up down c d e f a b h)
      | inr h ↦ elim (cases_lt f e) [
        | inl g ↦ absurd (between m up down d c f e b a g)
        | inr g ↦ let same : f ≡ e = omega arith in
            (coefficient-one m up down c d e a.fits (rw same at b.fits), sym same)
      ]
    ]
