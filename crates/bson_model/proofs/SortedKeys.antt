-- An object whose keys are sorted has the same keys, and as many if each key occurs once.
use Rattle.std.proofs.Common.{◌≡◌, ℕ, suc, List, Bool, true, false, ◌||◌, Ordering, Less, Equal, Greater, refl, sym, ap}
use Rattle.std.proofs.Common.{◌∙◌}
use Rattle.std.specs.Cmp.Lexicographic.{slice_cmp}
use Rattle.std.specs.Ordering.{nat_cmp, match_ordering}
use Rattle.std.specs.Prelude.{is_some}
use Rattle.std.specs.Str.{bytes_eq}
use Rattle.std.proofs.lemmas.Bool.{or_parts}
use Rattle.std.proofs.lemmas.Slice.Eq.{bytes_eq-Decides}
use Rattle.serde_json.specs.Data.{Data, Members, no_members, member, put}
use Rattle.bson_scalar.specs.Table.{wrapper_of, has_wrapper}
use Rattle.bson_model.proofs.Offered.{equal_keys}
use Rattle.bson_model.specs.OrderedTrees.{tree_sorted_by_key, members_sorted_by_key, has_key, KeysDiffer}

abbrev cmp : List ℕ → List ℕ → Ordering
cmp k l = slice_cmp nat_cmp k l

or_twice : (a b : Bool) → (a || b) ≡ (a || (a || b))
or_twice true b = refl
or_twice false b = refl

or_swap : (a b c : Bool) → (a || (b || c)) ≡ (b || (a || c))
or_swap true true c = refl
or_swap true false c = refl
or_swap false b c = refl

-- ---- a wrapper's key among them

wrapper_at : (o : Ordering) (k l : List ℕ) (d e : Data) (ms : Members) → cmp k l ≡ o
    → has_wrapper (put k d ms) ≡ (is_some (wrapper_of k) || has_wrapper ms)
    → has_wrapper (match_ordering o (member k d (member l e ms)) (member l d ms) (member l e (put k d ms)))
    ≡ (is_some (wrapper_of k) || (is_some (wrapper_of l) || has_wrapper ms))
wrapper_at Less k l d e ms h is = refl
wrapper_at Equal k l d e ms h is = or_twice (is_some (wrapper_of l)) (has_wrapper ms)
    ∙ ap (λ q. is_some (wrapper_of q) || (is_some (wrapper_of l) || has_wrapper ms)) (sym (equal_keys k l h))
wrapper_at Greater k l d e ms h is = ap (λ b. is_some (wrapper_of l) || b) is
    ∙ or_swap (is_some (wrapper_of l)) (is_some (wrapper_of k)) (has_wrapper ms)

put_wrapper : (k : List ℕ) (d : Data) (ms : Members)
    → has_wrapper (put k d ms) ≡ (is_some (wrapper_of k) || has_wrapper ms)
put_wrapper k d no_members = refl
put_wrapper k d (member l e ms) = wrapper_at (cmp k l) k l d e ms refl (put_wrapper k d ms)

pub same_wrapper : (ms : Members) → has_wrapper (members_sorted_by_key ms) ≡ has_wrapper ms
same_wrapper no_members = refl
same_wrapper (member k d ms) = put_wrapper k (tree_sorted_by_key d) (members_sorted_by_key ms)
    ∙ ap (λ b. is_some (wrapper_of k) || b) (same_wrapper ms)

-- ---- any key

key_at : (o : Ordering) (q k l : List ℕ) (d e : Data) (ms : Members) → cmp k l ≡ o
    → has_key q (put k d ms) ≡ (bytes_eq q k || has_key q ms)
    → has_key q (match_ordering o (member k d (member l e ms)) (member l d ms) (member l e (put k d ms)))
    ≡ (bytes_eq q k || (bytes_eq q l || has_key q ms))
key_at Less q k l d e ms h is = refl
key_at Equal q k l d e ms h is = or_twice (bytes_eq q l) (has_key q ms)
    ∙ ap (λ x. bytes_eq q x || (bytes_eq q l || has_key q ms)) (sym (equal_keys k l h))
key_at Greater q k l d e ms h is =
    ap (λ b. bytes_eq q l || b) is ∙ or_swap (bytes_eq q l) (bytes_eq q k) (has_key q ms)

put_key : (q k : List ℕ) (d : Data) (ms : Members) → has_key q (put k d ms) ≡ (bytes_eq q k || has_key q ms)
put_key q k d no_members = refl
put_key q k d (member l e ms) = key_at (cmp k l) q k l d e ms refl (put_key q k d ms)

pub same_key : (q : List ℕ) (ms : Members) → has_key q (members_sorted_by_key ms) ≡ has_key q ms
same_key q no_members = refl
same_key q (member k d ms) = put_key q k (tree_sorted_by_key d) (members_sorted_by_key ms)
    ∙ ap (λ b. bytes_eq q k || b) (same_key q ms)

-- ---- how many there are

pub not_equal : {A : Type 0} (k l : List ℕ) → cmp k l ≡ Equal → bytes_eq k l ≡ false → A
not_equal k l h differ = let yes : bytes_eq k l ≡ true = (bytes_eq-Decides k l).1 (equal_keys k l h) in cc

abbrev pub size : Members → ℕ
size no_members = 0
size (member k d ms) = suc (size ms)

size_at : (o : Ordering) (k l : List ℕ) (d e : Data) (ms : Members) → cmp k l ≡ o → bytes_eq k l ≡ false
    → size (put k d ms) ≡ suc (size ms)
    → size (match_ordering o (member k d (member l e ms)) (member l d ms) (member l e (put k d ms)))
    ≡ suc (suc (size ms))
size_at Less k l d e ms c differ is = refl
size_at Equal k l d e ms c differ is = not_equal k l c differ
size_at Greater k l d e ms c differ is = ap suc is

put_size : (k : List ℕ) (d : Data) (ms : Members) → has_key k ms ≡ false → size (put k d ms) ≡ suc (size ms)
put_size k d no_members new = refl
put_size k d (member l e ms) new =
    let p = or_parts (bytes_eq k l) (has_key k ms) new in
    size_at (cmp k l) k l d e ms refl p.0 (put_size k d ms p.1)

pub same_size : (ms : Members) → KeysDiffer ms → size (members_sorted_by_key ms) ≡ size ms
same_size no_members differ = refl
same_size (member k d ms) differ =
    put_size k (tree_sorted_by_key d) (members_sorted_by_key ms) (same_key k ms ∙ differ.0) ∙ ap suc (same_size ms differ.1)
