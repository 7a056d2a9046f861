-- The order of bytes is that of big-endian numbers.
use Rattle.std.proofs.Common.{◌≡◌, ℕ, suc, ◌+◌, ◌*◌, ◌^◌, ◌<◌, ◌≤◌, List, [], ◌∷◌, length, inl, inr, refl, sym, ◌∙◌}
use Rattle.std.proofs.Common.{arith, nat_cmp}
use Rattle.std.proofs.lemmas.Bool.{cases_order}
use Rattle.std.proofs.lemmas.Int.{ints}
use Rattle.std.proofs.Math.Nat.{mul-le-mul_right, pow-suc}
use Rattle.std.specs.Cmp.Lexicographic.{slice_cmp}
use Rattle.std.specs.declared.cmp.Ordering.TheVariants.{Less, Equal, Greater}
use Rattle.bson_types.specs.ObjectIds.{big_endian_number, IsBytes}

tail_bytes : (x : ℕ) (xs : List ℕ) → IsBytes (x ∷ xs) → IsBytes xs
tail_bytes x xs h = λ i. h (suc i)

big_endian_number-bound : (xs : List ℕ) → IsBytes xs → big_endian_number xs < 256 ^ length xs
unfolding big_endian_number
big_endian_number-bound [] h = omega arith
big_endian_number-bound (x ∷ xs) h =
    let small : x < 256 = h 0 in
    let le : x ≤ 255 = omega arith in
    omega (
      arith,
      pow-suc 256 (length xs),
      mul-le-mul_right (256 ^ length xs) le,
      big_endian_number-bound xs (tail_bytes x xs h),
    )

cmp-below : (a b : ℕ) → a < b → nat_cmp a b ≡ Less
cmp-below a b h = grind (arith, ints)

cmp-above : (a b : ℕ) → b < a → nat_cmp a b ≡ Greater
cmp-above a b h = grind (arith, ints)

cmp-same : (a : ℕ) → nat_cmp a a ≡ Equal
cmp-same a = grind (arith, ints)

cmp-add : (k a b : ℕ) → nat_cmp (k + a) (k + b) ≡ nat_cmp a b
cmp-add k a b =
    elim (cases_order a b) [
      | inl same ↦ rw same (cmp-same (k + b) ∙ sym (cmp-same b))
      | inr (inl lt) ↦ cmp-below (k + a) (k + b) (omega arith) ∙ sym (cmp-below a b lt)
      | inr (inr gt) ↦ cmp-above (k + a) (k + b) (omega arith) ∙ sym (cmp-above a b gt)
    ]

-- a smaller first byte is a smaller number
first_below : (x y p a b : ℕ) → x < y → a < p → x * p + a < y * p + b
first_below x y p a b h s =
    let le : suc x ≤ y = omega arith in
    omega (arith, mul-le-mul_right p le)

pub slice_cmp-big_endian_number : (a b : List ℕ) → length a ≡ length b → IsBytes a → IsBytes b
    → slice_cmp nat_cmp a b ≡ nat_cmp (big_endian_number a) (big_endian_number b)
unfolding big_endian_number
slice_cmp-big_endian_number [] [] e ha hb = refl
slice_cmp-big_endian_number [] (y ∷ ys) e ha hb = absurd (omega arith)
slice_cmp-big_endian_number (x ∷ xs) [] e ha hb = absurd (omega arith)
slice_cmp-big_endian_number (x ∷ xs) (y ∷ ys) e ha hb =
    let len : length xs ≡ length ys = omega arith in
    let ih = slice_cmp-big_endian_number xs ys len (tail_bytes x xs ha) (tail_bytes y ys hb) in
    let bx = big_endian_number-bound xs (tail_bytes x xs ha) in
    let by' = big_endian_number-bound ys (tail_bytes y ys hb) in
    elim (cases_order x y) [
      | inl same ↦ rw (same, cmp-same y, len) (ih ∙ sym (cmp-add (y * 256 ^ length ys) (big_endian_number xs) (big_endian_number ys)))
      | inr (inl lt) ↦
          let less : x * 256 ^ length xs + big_endian_number xs < y * 256 ^ length ys + big_endian_number ys =
          rw (← len) (first_below x y (256 ^ length xs) (big_endian_number xs) (big_endian_number ys) lt bx) in
          rw (cmp-below x y lt) (sym (cmp-below _ _ less))
      | inr (inr gt) ↦
          let more : y * 256 ^ length ys + big_endian_number ys < x * 256 ^ length xs + big_endian_number xs =
          rw len (first_below y x (256 ^ length ys) (big_endian_number ys) (big_endian_number xs) gt by') in
          rw (cmp-above x y gt) (sym (cmp-above _ _ more))
    ]

pub ruleset order_lemmas = (slice_cmp-big_endian_number)
