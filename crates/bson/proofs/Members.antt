-- Members in ascending order, by their places.
use Rattle.std.proofs.Common.{◌≡◌, ℕ, zero, suc, ◌+◌, ◌<◌, ◌≤◌, List, [], ◌∷◌, length, get_or, set, String}
use Rattle.std.proofs.Common.{Global, string_bytes, Less, Equal, Greater, nat_cmp, refl, sym, ap, subst, arith}
use Rattle.std.specs.Cmp.Lexicographic.{slice_cmp}
use Rattle.std.specs.List.{insert}
use Rattle.std.proofs.lemmas.Cmp.{nat_list_cmp_total}
use Rattle.bson.specs.View.{bson_view}
use Rattle.bson.specs.declared.bson.Bson.{Bson}
use Rattle.bson_model.specs.Sorted.{insert_sorted_pair, IsBelowKeys, KeysAscend}
use Rattle.bson_model.specs.Value.{pair}
use Rattle.bson_model.proofs.Offered.{flipped, equal_keys}
use Rattle.bson.specs.SortedMembers.{Member, member, pairs_of_members, IsKeyAt, IsInsertionPoint}

abbrev pub key_at : List Member → ℕ → Member → List ℕ
key_at ms i d = string_bytes (get_or ms i d).key

-- the keys after a place are above the one there
above_first : (k : List ℕ) (ms : List Member) (i : ℕ) (d : Member) → IsBelowKeys k (pairs_of_members ms) → i < length ms
    → slice_cmp nat_cmp k (key_at ms i d) ≡ Less
above_first k [] i d a l = absurd (omega arith)
above_first k (m ∷ ms) zero d a l = a.0
above_first k (m ∷ ms) (suc i) d a l = above_first k ms i d a.1 (omega arith)

-- what is above a member is above all before it
after_first : (k : List ℕ) (m : Member) (ms : List Member) (i : ℕ) (d : Member)
    → IsBelowKeys (string_bytes m.key) (pairs_of_members ms) → i < length ms → slice_cmp nat_cmp k (key_at ms i d) ≡ Greater
    → slice_cmp nat_cmp k (string_bytes m.key) ≡ Greater
after_first k m ms i d least l h =
    flipped (string_bytes m.key) k Less
    (nat_list_cmp_total.trans (string_bytes m.key) (key_at ms i d) k
    (above_first (string_bytes m.key) ms i d least l) (flipped k (key_at ms i d) Greater h))

at_first : (k : List ℕ) (m : Member) (ms : List Member) (i : ℕ) (d : Member)
    → IsBelowKeys (string_bytes m.key) (pairs_of_members ms) → i < length ms → slice_cmp nat_cmp k (key_at ms i d) ≡ Equal
    → slice_cmp nat_cmp k (string_bytes m.key) ≡ Greater
at_first k m ms i d least l h =
    flipped (string_bytes m.key) k Less
    (subst (λ x. slice_cmp nat_cmp (string_bytes m.key) x ≡ Less) (sym (equal_keys k (key_at ms i d) h))
    (above_first (string_bytes m.key) ms i d least l))

pub stands : (k : List ℕ) (ms : List Member) (i : ℕ) (d : Member) → KeysAscend (pairs_of_members ms) → i < length ms
    → slice_cmp nat_cmp k (key_at ms i d) ≡ Equal → IsKeyAt k ms i
stands k [] i d up l h = absurd (omega arith)
stands k (m ∷ ms) zero d up l h = h
stands k (m ∷ ms) (suc i) d up l h = (at_first k m ms i d up.0 (omega arith) h, stands k ms i d up.1 (omega arith) h)

-- the key is below the member at the place, if there is one
abbrev pub IsBelowAt : List ℕ → List Member → ℕ → Type 0
IsBelowAt k ms i = (d : Member) → i < length ms → slice_cmp nat_cmp k (key_at ms i d) ≡ Less

pub fits_first : (k : List ℕ) (ms : List Member) → IsBelowAt k ms 0 → IsInsertionPoint k ms 0
fits_first k [] below = tt
fits_first k (m ∷ ms) below = below m (omega arith)

pub fits : (k : List ℕ) (ms : List Member) (i : ℕ) (d : Member) → KeysAscend (pairs_of_members ms) → i < length ms
    → slice_cmp nat_cmp k (key_at ms i d) ≡ Greater → IsBelowAt k ms (suc i) → IsInsertionPoint k ms (suc i)
fits k [] i d up l h below = absurd (omega arith)
fits k (m ∷ ms) zero d up l h below = (h, fits_first k ms (λ e n. below e (omega arith)))
fits k (m ∷ ms) (suc i) d up l h below =
    (after_first k m ms i d up.0 (omega arith) h, fits k ms i d up.1 (omega arith) h (λ e n. below e (omega arith)))

-- ---- what an edit at the place does

pub seen_set : (k : String Global) (v : Bson) (ms : List Member) (i : ℕ) → IsKeyAt (string_bytes k) ms i
    → pairs_of_members (set ms i (member k v)) ≡ insert_sorted_pair (string_bytes k) (bson_view v) (pairs_of_members ms)
seen_set k v [] i h = absurd h
seen_set k v (m ∷ ms) zero h =
    rw h (ap (λ x. pair x (bson_view v) (pairs_of_members ms)) (equal_keys (string_bytes k) (string_bytes m.key) h))
seen_set k v (m ∷ ms) (suc i) h = rw h.0 (ap (pair (string_bytes m.key) (bson_view m.value)) (seen_set k v ms i h.1))

pub seen_insert : (k : String Global) (v : Bson) (ms : List Member) (i : ℕ) → IsInsertionPoint (string_bytes k) ms i
    → pairs_of_members (insert ms i (member k v)) ≡ insert_sorted_pair (string_bytes k) (bson_view v) (pairs_of_members ms)
seen_insert k v [] zero h = refl
seen_insert k v [] (suc i) h = absurd h
seen_insert k v (m ∷ ms) zero h = rw h refl
seen_insert k v (m ∷ ms) (suc i) h =
    rw h.0 (ap (pair (string_bytes m.key) (bson_view m.value)) (seen_insert k v ms i h.1))

-- ---- places are within the list

pub stands_within : (k : List ℕ) (ms : List Member) (i : ℕ) → IsKeyAt k ms i → i < length ms
stands_within k [] i h = absurd h
stands_within k (m ∷ ms) zero h = omega arith
stands_within k (m ∷ ms) (suc i) h = omega (arith, stands_within k ms i h.1)

pub fits_within : (k : List ℕ) (ms : List Member) (i : ℕ) → IsInsertionPoint k ms i → i ≤ length ms
fits_within k [] zero h = omega arith
fits_within k [] (suc i) h = absurd h
fits_within k (m ∷ ms) zero h = omega arith
fits_within k (m ∷ ms) (suc i) h = omega (arith, fits_within k ms i h.1)

-- how many are left after the next
pub one_left : {X : Type 0} (xs ys : List X) (x : X) (n m : ℕ) → n ≡ length xs → xs ≡ x ∷ ys → m + 1 ≡ n
    → m ≡ length ys
one_left xs ys x n m all steps gone = let short = ap length steps in omega arith
