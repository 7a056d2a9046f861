-- Keys of an object that ascend, and keys that differ.
use Rattle.std.proofs.Common.{◌≡◌, ℕ, ◌+◌, ◌<◌, List, length, get_or, false, IsSorted, Ordering, Less, Equal}
use Rattle.std.proofs.Common.{Greater, nat_cmp, is_eq, is_lt, sym, ap, ◌∙◌, arith, subst}
use Rattle.std.proofs.lemmas.Cmp.{on_total, nat_list_cmp_total}
use Rattle.std.proofs.lemmas.Map.Keys.{sorted_from_all_adjacent, Less-from_sorted}
use Rattle.std.proofs.lemmas.Map.Text.{is_eq-slice_cmp}
use Rattle.std.specs.Cmp.Lexicographic.{slice_cmp}
use Rattle.std.specs.Ordering.{ordering_reverse}
use Rattle.json.specs.Strict.{AreDistinct}
use Rattle.json.proofs.Unique.Keys.{Key, texts, AreDistinct-from_places, DifferAt-from_distinct}

abbrev by_bytes : Key → Key → Ordering
by_bytes a b = slice_cmp nat_cmp a.now b.now

-- each of the first n keys is less than the next of them
abbrev pub SpanKeysAscend : List Key → ℕ → Type 0
SpanKeysAscend ks n = (i : ℕ) → i + 1 < n → (d : Key) → by_bytes (get_or ks i d) (get_or ks (i + 1) d) ≡ Less

pub distinct_from_ascend : (ks : List Key) → SpanKeysAscend ks (length ks) → AreDistinct (texts ks)
distinct_from_ascend ks ascend =
    AreDistinct-from_places ks (λ i j less within d.
    let total = on_total (λ (k : Key). k.now) nat_list_cmp_total in
    let sorted = sorted_from_all_adjacent total ks d (λ k h. ascend k h d) in
    sym (is_eq-slice_cmp (get_or ks i d).now (get_or ks j d).now)
    ∙ ap is_eq (Less-from_sorted by_bytes ks i j d sorted less within))

not_tied : (o p : Ordering) → o ≡ ordering_reverse p → is_lt p ≡ false → is_eq o ≡ false → o ≡ Less
not_tied o Less e p q = cc
not_tied o Equal e p q = let tied = ap is_eq (sym e) ∙ q in cc
not_tied o Greater e p q = e

-- of keys in order that differ each is less than the next
pub less_than_next : (ks : List Key) → IsSorted by_bytes ks → AreDistinct (texts ks) → (i j : ℕ) → i + 1 ≡ j
    → j < length ks → (d : Key) → by_bytes (get_or ks i d) (get_or ks j d) ≡ Less
less_than_next ks sorted apart i j next within d =
    let total = on_total (λ (k : Key). k.now) nat_list_cmp_total in
    let x = get_or ks i d in
    let y = get_or ks j d in
    let back : is_lt (by_bytes y x) ≡ false =
    subst (λ n. is_lt (by_bytes (get_or ks n d) x) ≡ false) next (sorted i d (omega arith) (omega (arith, next))) in
    not_tied (by_bytes x y) (by_bytes y x) (total.antisymm x y) back
    (is_eq-slice_cmp x.now y.now ∙ DifferAt-from_distinct ks i j apart (omega (arith, next)) within d)
