-- The first position at which two lists of bytes differ.
use Rattle.std.proofs.Common.{◌≡◌, ◌≢◌, ◌⊎◌, inl, inr, ◌<◌, ◌≤◌, ℕ, suc, min, List, get_or, length, take, arith, sym, ap, ◌∙◌}
use Rattle.std.proofs.lemmas.Bool.{cases_order}
use Rattle.std.proofs.lemmas.List.{get_or-take, length-take, take-take, take_all}
use Rattle.bson_convert.specs.Difference.{IsFirstDifferenceAt}

-- the same list does not differ
pub no_difference : (column : ℕ) (a b : List ℕ) → IsFirstDifferenceAt column a b → a ≡ b → ⊥
no_difference column a b h same = h.differ (ap (take column) same)

-- what begins with the same bytes begins with fewer
fewer : (n m : ℕ) (a b : List ℕ) → n ≤ m → take m a ≡ take m b → take n a ≡ take n b
fewer n m a b h same = sym (take-take n m a h) ∙ ap (take n) same ∙ take-take n m b h

earlier : (column other : ℕ) (a b : List ℕ) → IsFirstDifferenceAt column a b → IsFirstDifferenceAt other a b → column < other → ⊥
earlier column other a b x y h = x.differ (fewer column y.common_length a b (omega (arith, h, y.counted)) y.same)

-- two lists begin to differ in one byte
pub one_difference : (column other : ℕ) (a b : List ℕ) → IsFirstDifferenceAt column a b → IsFirstDifferenceAt other a b → column ≡ other
one_difference column other a b x y = one (cases_order column other)
  where
    one : (column ≡ other) ⊎ ((column < other) ⊎ (other < column)) → column ≡ other
    one (inl same) = same
    one (inr (inl less)) = absurd (earlier column other a b x y less)
    one (inr (inr more)) = absurd (earlier other column a b y x more)

-- a byte differs
pub differ_there : (n : ℕ) (a b : List ℕ) (d : ℕ) → get_or a n d ≢ get_or b n d → take (suc n) a ≢ take (suc n) b
differ_there n a b d other same =
    other (sym (get_or-take (suc n) a n d (omega arith)) ∙ ap (λ l. get_or l n d) same ∙ get_or-take (suc n) b n d (omega arith))

-- one of them ends
pub differ_end : (n : ℕ) (a b : List ℕ) → n ≡ min (length a) (length b) → a ≢ b → take (suc n) a ≢ take (suc n) b
differ_end n a b is other same =
    let long : min (suc n) (length a) ≡ min (suc n) (length b) =
    sym (length-take (suc n) a) ∙ ap length same ∙ length-take (suc n) b in
    other (sym (take_all (suc n) a (omega (arith, is, long))) ∙ same ∙ take_all (suc n) b (omega (arith, is, long)))
