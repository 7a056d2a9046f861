-- In a list with ascending keys, two entries of different keys may be inserted in either order. `put` is any such
-- insertion: it says where an entry is inserted, by the first one that is there.
use Rattle.std.proofs.Common.{◌≡◌, ℕ, List, Ordering, Less, Equal, Greater, nat_cmp, refl, sym, ap, ◌∙◌, subst}
use Rattle.std.specs.Cmp.Lexicographic.{slice_cmp}
use Rattle.std.specs.Ordering.{match_ordering, ordering_reverse, is_eq}
use Rattle.std.proofs.lemmas.Cmp.{nat_list_cmp_total}
use Rattle.std.proofs.lemmas.Map.Text.{is_eq-slice_cmp}
use Rattle.std.proofs.lemmas.Slice.Eq.{bytes_eq-Decides}

abbrev pub cmp : List ℕ → List ℕ → Ordering
cmp = slice_cmp nat_cmp

pub equal_keys : (k l : List ℕ) → cmp k l ≡ Equal → k ≡ l
equal_keys k l h = (bytes_eq-Decides k l).0 (sym (is_eq-slice_cmp k l) ∙ ap is_eq h)

pub flipped : (k l : List ℕ) (o : Ordering) → cmp k l ≡ o → cmp l k ≡ ordering_reverse o
flipped k l o h = nat_list_cmp_total.antisymm l k ∙ ap ordering_reverse h

below : (k a l : List ℕ) → cmp k a ≡ Less → cmp l a ≡ Greater → cmp k l ≡ Less
below k a l h g = nat_list_cmp_total.trans k a l h (flipped l a Greater g)

module _ {V L : Type 0} (none : L) (entry : List ℕ → V → L → L) (put : List ℕ → V → L → L)
    (put-none : (k : List ℕ) (v : V) → put k v none ≡ entry k v none)
    (put-entry : (k a : List ℕ) (v x : V) (ps : L) → put k v (entry a x ps)
    ≡ match_ordering (cmp k a) (entry k v (entry a x ps)) (entry a v ps) (entry a x (put k v ps))) where
  at : (o : Ordering) (k a : List ℕ) (v x : V) (ps : L) → cmp k a ≡ o
      → put k v (entry a x ps) ≡ match_ordering o (entry k v (entry a x ps)) (entry a v ps) (entry a x (put k v ps))
  at o k a v x ps h = put-entry k a v x ps
      ∙ ap (λ q. match_ordering q (entry k v (entry a x ps)) (entry a v ps) (entry a x (put k v ps))) h

  none_at : (o : Ordering) (k l : List ℕ) (v w : V) → cmp k l ≡ o → (k ≡ l → ⊥)
      → put k v (entry l w none) ≡ put l w (entry k v none)
  none_at Less k l v w h apart = at Less k l v w none h
      ∙ sym (at Greater l k w v none (flipped k l Less h) ∙ ap (entry k v) (put-none l w))
  none_at Equal k l v w h apart = absurd (apart (equal_keys k l h))
  none_at Greater k l v w h apart = at Greater k l v w none h ∙ ap (entry l w) (put-none k v)
      ∙ sym (at Less l k w v none (flipped k l Greater h))

  pub swap_none : (k l : List ℕ) (v w : V) → (k ≡ l → ⊥) → put k v (put l w none) ≡ put l w (put k v none)
  swap_none k l v w apart = ap (put k v) (put-none l w) ∙ none_at (cmp k l) k l v w refl apart
      ∙ ap (put l w) (sym (put-none k v))

  swap_at : (o p q : Ordering) (k l a : List ℕ) (v w x : V) (ps : L) → cmp k a ≡ o → cmp l a ≡ p → cmp k l ≡ q
      → (k ≡ l → ⊥)
      → put k v (put l w ps) ≡ put l w (put k v ps) → put k v (put l w (entry a x ps))
      ≡ put l w (put k v (entry a x ps))
  swap_at Less Less Less k l a v w x ps ka la kl apart is = let lk = flipped k l Less kl in
      rw (
        at Less l a w x ps la,
        at Less k l v w (entry a x ps) kl,
        at Less k a v x ps ka,
        at Greater l k w v (entry a x ps) lk,
        at Less l a w x ps la,
      ) refl
  swap_at Less Less Equal k l a v w x ps ka la kl apart is = absurd (apart (equal_keys k l kl))
  swap_at Less Less Greater k l a v w x ps ka la kl apart is = let lk = flipped k l Greater kl in
      rw (
        at Less l a w x ps la,
        at Greater k l v w (entry a x ps) kl,
        at Less k a v x ps ka,
        at Less l k w v (entry a x ps) lk,
      ) refl
  swap_at Less Equal q k l a v w x ps ka la kl apart is = let lk : cmp l k ≡ Greater =
      subst (λ b. cmp b k ≡ Greater) (sym (equal_keys l a la)) (flipped k a Less ka) in
      rw (
        at Equal l a w x ps la,
        at Less k a v w ps ka,
        at Less k a v x ps ka,
        at Greater l k w v (entry a x ps) lk,
        at Equal l a w x ps la,
      ) refl
  swap_at Less Greater q k l a v w x ps ka la kl apart is = let lk = flipped k l Less (below k a l ka la) in
      rw (
        at Greater l a w x ps la,
        at Less k a v x (put l w ps) ka,
        at Less k a v x ps ka,
        at Greater l k w v (entry a x ps) lk,
        at Greater l a w x ps la,
      ) refl
  swap_at Equal Less q k l a v w x ps ka la kl apart is = let e : cmp k l ≡ Greater =
      subst (λ b. cmp b l ≡ Greater) (sym (equal_keys k a ka)) (flipped l a Less la) in
      rw (at Less l a w x ps la, at Greater k l v w (entry a x ps) e, at Equal k a v x ps ka, at Less l a w v ps la)
      refl
  swap_at Equal Equal q k l a v w x ps ka la kl apart is = absurd (apart (equal_keys k a ka ∙ sym (equal_keys l a la)))
  swap_at Equal Greater q k l a v w x ps ka la kl apart is =
      rw (at Greater l a w x ps la, at Equal k a v x (put l w ps) ka, at Equal k a v x ps ka, at Greater l a w v ps la)
      refl
  swap_at Greater Less q k l a v w x ps ka la kl apart is = let e = flipped l k Less (below l a k la ka) in
      rw (
        at Less l a w x ps la,
        at Greater k l v w (entry a x ps) e,
        at Greater k a v x ps ka,
        at Less l a w x (put k v ps) la,
      ) refl
  swap_at Greater Equal q k l a v w x ps ka la kl apart is =
      rw (at Equal l a w x ps la, at Greater k a v w ps ka, at Greater k a v x ps ka, at Equal l a w x (put k v ps) la)
      refl
  swap_at Greater Greater q k l a v w x ps ka la kl apart is =
      rw (
        at Greater l a w x ps la,
        at Greater k a v x (put l w ps) ka,
        at Greater k a v x ps ka,
        at Greater l a w x (put k v ps) la,
      ) (ap (entry a x) is)

  pub swap_entry : (k l a : List ℕ) (v w x : V) (ps : L) → (k ≡ l → ⊥) → put k v (put l w ps) ≡ put l w (put k v ps)
      → put k v (put l w (entry a x ps)) ≡ put l w (put k v (entry a x ps))
  swap_entry k l a v w x ps apart is = swap_at (cmp k a) (cmp l a) (cmp k l) k l a v w x ps refl refl refl apart is
