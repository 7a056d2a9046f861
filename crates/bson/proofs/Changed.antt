-- Pairs whose values are written one after the other.
use Rattle.std.proofs.Common.{◌≡◌, ℕ, zero, suc, ◌+◌, List, [], ◌∷◌, ◌++◌, take, drop, add-one, length, Some, slice_get}
use Rattle.std.proofs.Common.{refl, sym, ap, ◌∙◌}
use Rattle.bson_store.specs.Pairs.{with_value}

drop-first : {A : Type 0} (xs : List A) (i : ℕ) → drop (suc i) xs ≡ drop 1 (drop i xs)
drop-first [] zero = refl
drop-first [] (suc i) = refl
drop-first (x ∷ xs) zero = refl
drop-first (x ∷ xs) (suc i) = drop-first xs i

-- lists that are equal from a place on are so from the next
pub drop-next : {A : Type 0} (xs ys : List A) (i : ℕ) → drop i xs ≡ drop i ys → drop (i + 1) xs ≡ drop (i + 1) ys
drop-next xs ys i e =
    ap (λ n. drop n xs) (add-one i) ∙ drop-first xs i ∙ ap (drop 1) e ∙ sym (drop-first ys i)
    ∙ ap (λ n. drop n ys) (sym (add-one i))

module _ {V : Type 0} where
  pub length-with : (ps : List (List ℕ × V)) (i : ℕ) (w : V) → length (with_value ps i w) ≡ length ps
  length-with [] i w = refl
  length-with (p ∷ ps) zero w = refl
  length-with (p ∷ ps) (suc i) w = ap suc (length-with ps i w)

  drop-after : (ps : List (List ℕ × V)) (i : ℕ) (w : V) → drop (suc i) (with_value ps i w) ≡ drop (suc i) ps
  drop-after [] i w = refl
  drop-after (p ∷ ps) zero w = refl
  drop-after (p ∷ ps) (suc i) w = drop-after ps i w

  -- what is after the written pair stays
  pub drop-with : (ps : List (List ℕ × V)) (i : ℕ) (w : V) → drop (i + 1) (with_value ps i w) ≡ drop (i + 1) ps
  drop-with ps i w = ap (λ n. drop n (with_value ps i w)) (add-one i) ∙ drop-after ps i w
      ∙ ap (λ n. drop n ps) (sym (add-one i))

  take-to : (ps rest : List (List ℕ × V)) (i : ℕ) (k : List ℕ) (v w : V) → slice_get ps i ≡ Some (k, v)
      → take (suc i) (with_value ps i w) ++ rest ≡ take i ps ++ (k, w) ∷ rest
  take-to [] rest i k v w e = cc
  take-to (p ∷ ps) rest zero k v w e = let same : p ≡ (k, v) = cc in ap (λ q. (q.0, w) ∷ rest) same
  take-to (p ∷ ps) rest (suc i) k v w e = ap (λ l. p ∷ l) (take-to ps rest i k v w e)

  -- and so does what is before it
  pub take-with : (ps rest : List (List ℕ × V)) (i : ℕ) (k : List ℕ) (v w : V) → slice_get ps i ≡ Some (k, v)
      → take (i + 1) (with_value ps i w) ++ rest ≡ take i ps ++ (k, w) ∷ rest
  take-with ps rest i k v w e = ap (λ n. take n (with_value ps i w) ++ rest) (add-one i) ∙ take-to ps rest i k v w e
