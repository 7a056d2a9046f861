-- Pairs whose keys ascend: their keys still ascend after a change, and the position of a key among them.
use Rattle.std.proofs.Common.{◌≡◌, ℕ, zero, suc, ◌+◌, ◌<◌, ◌≤◌, Bool, true, false, List, [], ◌∷◌, ◌++◌, length, take}
use Rattle.std.proofs.Common.{remove, Option, Some, None, slice_get, option_map, refl, sym, ap, ◌∙◌, true≢false, arith}
use Rattle.std.specs.List.{AllByRecursion}
use Rattle.std.specs.List.Sorted.{IsStrictlySortedBy}
use Rattle.std.specs.Ordering.{is_lt}
use Rattle.std.specs.Cmp.{tied_itself}
use Rattle.std.specs.declared.cmp.Ordering.TheVariants.{Less}
use Rattle.std.proofs.lemmas.Option.{slice_get-map}
use Rattle.bson_store.specs.AscendingKeys.{NoKeyAboveBefore, AllKeysAboveFrom, IsFirstKeyAbove}
use Rattle.bson_store.specs.AscendingOrder.{key_cmp}
use Rattle.bson_store.specs.Pairs.{keys, position_of}
use Rattle.bson_store.specs.KeyIndex.{HasAscendingKeys}
use Rattle.bson_store.proofs.Found.{key-place}
use Rattle.bson_store.proofs.Least.{key_total, less_of}
use Rattle.bson_store.proofs.Placed.{all-push, all-remove}

-- a key is not below itself
not_below_itself : (k : List ℕ) → is_lt (key_cmp k k) ≡ false
not_below_itself k = ap is_lt (tied_itself key_total k)

-- of two keys one alone is below the other
not_both : (k l : List ℕ) → key_cmp k l ≡ Less → key_cmp l k ≡ Less → ⊥
not_both k l a b = true≢false (sym (ap is_lt (key_total.trans k l k a b)) ∙ not_below_itself k)

-- one of two orders of two positions
split : {P : Type 0} (j i : ℕ) → (j < i → P) → (i ≤ j → P) → P
split zero zero f g = g (omega arith)
split zero (suc i) f g = f (omega arith)
split (suc j) zero f g = g (omega arith)
split (suc j) (suc i) f g = split j i (λ h. f (omega (arith, h))) (λ h. g (omega (arith, h)))

by_test : (b : Bool) → (b ≡ true → ⊥) → b ≡ false
by_test true h = absurd (h refl)
by_test false h = refl

-- what a position is: there is none, or this one
pub by_option : {A : Type 0} (P : Option A → Type 0) (r : Option A) → (r ≡ None → P None)
    → ((x : A) → r ≡ Some x → P (Some x)) → P r
by_option P None n s = n refl
by_option P (Some x) n s = s x refl

pub ascend_none : IsStrictlySortedBy key_cmp []
unfolding IsStrictlySortedBy
ascend_none = tt

module _ {V : Type 0} where
  -- ---- keys still ascend with one more key after them, and with one key less

  below-at : (k : List ℕ) (ps : List (List ℕ × V)) (i : ℕ) (l : List ℕ)
      → AllByRecursion (λ q. key_cmp k q ≡ Less) (keys ps) → slice_get (keys ps) i ≡ Some l → key_cmp k l ≡ Less
  below-at k [] i l h e = cc
  below-at k (p ∷ ps) zero l h e = let same : p.0 ≡ l = cc in ap (key_cmp k) (sym same) ∙ h.0
  below-at k (p ∷ ps) (suc i) l h e = below-at k ps i l h.1 e

  pub ascend-push : (ps : List (List ℕ × V)) (n : ℕ) (l k : List ℕ) (v : V) → HasAscendingKeys ps → length ps ≡ suc n
      → slice_get (keys ps) n ≡ Some l → key_cmp l k ≡ Less → HasAscendingKeys (ps ++ (k, v) ∷ [])
  unfolding IsStrictlySortedBy
  ascend-push [] n l k v up len e below = cc
  ascend-push (p ∷ []) zero l k v up len e below =
      let same : p.0 ≡ l = cc in ((ap (λ x. key_cmp x k) same ∙ below, tt), (tt, tt))
  ascend-push (p ∷ []) (suc n) l k v up len e below = cc
  ascend-push (p ∷ q ∷ ps) zero l k v up len e below = absurd (omega (arith, len))
  ascend-push (p ∷ q ∷ ps) (suc n) l k v up len e below = (
    all-push (λ y. key_cmp p.0 y ≡ Less) (q ∷ ps) k v up.0
        (key_total.trans p.0 l k (below-at p.0 (q ∷ ps) n l up.0 e) below),
    ascend-push (q ∷ ps) n l k v up.1 (omega (arith, len)) e below,
  )

  pub ascend-one : (k : List ℕ) (v : V) → HasAscendingKeys ((k, v) ∷ [])
  unfolding IsStrictlySortedBy
  ascend-one k v = (tt, tt)

  pub ascend-remove : (ps : List (List ℕ × V)) (i : ℕ) → HasAscendingKeys ps → HasAscendingKeys (remove ps i)
  unfolding IsStrictlySortedBy
  ascend-remove [] zero up = up
  ascend-remove [] (suc i) up = up
  ascend-remove (p ∷ ps) zero up = up.1
  ascend-remove (p ∷ ps) (suc i) up = (all-remove (λ y. key_cmp p.0 y ≡ Less) ps i up.0, ascend-remove ps i up.1)

  pub at-take : (ps : List (List ℕ × V)) (n i : ℕ) → i < n → slice_get (take n ps) i ≡ slice_get ps i
  at-take [] zero i less = refl
  at-take [] (suc n) i less = refl
  at-take (p ∷ ps) zero i less = absurd (omega (arith, less))
  at-take (p ∷ ps) (suc n) zero less = refl
  at-take (p ∷ ps) (suc n) (suc i) less = at-take ps n i (omega (arith, less))

  -- ---- the position of a key

  pub order-at : (ps : List (List ℕ × V)) (i j : ℕ) (k l : List ℕ) → HasAscendingKeys ps → i < j
      → slice_get (keys ps) i ≡ Some k → slice_get (keys ps) j ≡ Some l → key_cmp k l ≡ Less
  unfolding IsStrictlySortedBy
  order-at [] i j k l up less e f = cc
  order-at (p ∷ ps) i zero k l up less e f = absurd (omega (arith, less))
  order-at (p ∷ ps) zero (suc j) k l up less e f =
      let same : p.0 ≡ k = cc in ap (λ x. key_cmp x l) (sym same) ∙ below-at p.0 ps j l up.0 f
  order-at (p ∷ ps) (suc i) (suc j) k l up less e f = order-at ps i j k l up.1 (omega (arith, less)) e f

  pub key-of : (ps : List (List ℕ × V)) (i : ℕ) (p : List ℕ × V) → slice_get ps i ≡ Some p
      → slice_get (keys ps) i ≡ Some p.0
  key-of ps i p e = slice_get-map (λ x. x.0) ps i ∙ ap (option_map (λ x. x.0)) e

  -- if the key at a position is above a key, so are the keys after it
  pub above-at : (last : List ℕ) (ps : List (List ℕ × V)) (m j : ℕ) (k l : List ℕ) → HasAscendingKeys ps → m ≤ j
      → slice_get (keys ps) m ≡ Some k → slice_get (keys ps) j ≡ Some l → is_lt (key_cmp last k) ≡ true
      → is_lt (key_cmp last l) ≡ true
  unfolding IsStrictlySortedBy
  above-at last [] m j k l up le e f a = cc
  above-at last (p ∷ ps) zero zero k l up le e f a =
      let one : k ≡ l = cc in ap (λ x. is_lt (key_cmp last x)) (sym one) ∙ a
  above-at last (p ∷ ps) zero (suc j) k l up le e f a =
      let same : p.0 ≡ k = cc in
      ap is_lt (key_total.trans last k l (less_of (key_cmp last k) a)
      (ap (λ x. key_cmp x l) (sym same) ∙ below-at p.0 ps j l up.0 f))
  above-at last (p ∷ ps) (suc m) zero k l up le e f a = absurd (omega (arith, le))
  above-at last (p ∷ ps) (suc m) (suc j) k l up le e f a = above-at last ps m j k l up.1 (omega (arith, le)) e f a

  -- one step of the search: from a key above the last one all are above it, and up to one that is not none is
  pub above-from : (last : List ℕ) (ps : List (List ℕ × V)) (m : ℕ) (k : List ℕ) → HasAscendingKeys ps
      → slice_get (keys ps) m ≡ Some k → is_lt (key_cmp last k) ≡ true → AllKeysAboveFrom (Some last) ps m
  above-from last ps m k up e a = λ j l le f. above-at last ps m j k l up le e f a

  pub none-above-to : (last : List ℕ) (ps : List (List ℕ × V)) (m : ℕ) (k : List ℕ) → HasAscendingKeys ps
      → slice_get (keys ps) m ≡ Some k → is_lt (key_cmp last k) ≡ false → NoKeyAboveBefore (Some last) ps (m + 1)
  none-above-to last ps m k up e a =
      λ j l less f. by_test (is_lt (key_cmp last l))
      (λ t. true≢false (sym (above-at last ps j m l k up (omega (arith, less)) f e t) ∙ a))

  -- a key that is not above the key at a position before it is that key
  same-at : (ps : List (List ℕ × V)) (j n : ℕ) (k l : List ℕ) → HasAscendingKeys ps → j ≤ n → slice_get (keys ps) j ≡ Some k
      → slice_get (keys ps) n ≡ Some l → is_lt (key_cmp k l) ≡ false → k ≡ l
  unfolding IsStrictlySortedBy
  same-at [] j n k l up le e f a = cc
  same-at (p ∷ ps) zero zero k l up le e f a = cc
  same-at (p ∷ ps) zero (suc n) k l up le e f a =
      let same : p.0 ≡ k = cc in
      absurd (true≢false (sym (ap is_lt (ap (λ x. key_cmp x l) (sym same) ∙ below-at p.0 ps n l up.0 f)) ∙ a))
  same-at (p ∷ ps) (suc j) zero k l up le e f a = absurd (omega (arith, le))
  same-at (p ∷ ps) (suc j) (suc n) k l up le e f a = same-at ps j n k l up.1 (omega (arith, le)) e f a

  -- ---- the position of a key

  -- none, where no key is before the first one above
  pub absent-first : (k : List ℕ) (ps : List (List ℕ × V)) → AllKeysAboveFrom (Some k) ps 0 → position_of k ps ≡ None
  absent-first k ps all = by_option (λ r. r ≡ None) (position_of k ps) (λ e. refl)
      (λ j e. absurd (true≢false (sym (all j k (omega arith) (key-place k ps j e)) ∙ not_below_itself k)))

  -- none, where the key before the first one above is another
  pub absent-behind : (k : List ℕ) (ps : List (List ℕ × V)) (n : ℕ) (l : List ℕ) → HasAscendingKeys ps
      → IsFirstKeyAbove (Some k) ps (n + 1) → slice_get (keys ps) n ≡ Some l → (k ≡ l → ⊥) → position_of k ps ≡ None
  absent-behind k ps n l up first e other = by_option (λ r. r ≡ None) (position_of k ps) (λ f. refl)
      (λ j f. absurd (split j (n + 1)
      (λ less. other (same-at ps j n k l up (omega (arith, less)) (key-place k ps j f) e (first.1 n l (omega arith) e)))
      (λ le. true≢false (sym (first.2 j k le (key-place k ps j f)) ∙ not_below_itself k))))
