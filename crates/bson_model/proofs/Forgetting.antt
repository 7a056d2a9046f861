-- A tree in the order of a text, with the order forgotten, is `serde_json`'s.
use Rattle.std.proofs.Common.{◌≡◌, ℕ, List, Bool, true, false, cond, Option, Some, None, Ordering, Less, Equal, Greater}
use Rattle.std.proofs.Common.{option_map, option_and_then, refl, sym, ap, ◌∙◌, subst}
use Rattle.std.proofs.lemmas.Cmp.{nat_list_cmp_total, tied_itself}
use Rattle.std.proofs.lemmas.Slice.Eq.{bytes_eq-Decides}
use Rattle.std.specs.Cmp.Lexicographic.{slice_cmp}
use Rattle.std.specs.Ordering.{nat_cmp}
use Rattle.std.specs.Str.{bytes_eq}
use Rattle.json.specs.Json as json
use Rattle.json.specs.Lex.{tokens}
use Rattle.serde_json.specs.Data.{Num, Data, number, array, object, Items, item, Members, no_members, member, put}
use Rattle.serde_json.specs.Read.{number_of, of_json, of_items, of_members, read, max_depth}
use Rattle.bson_model.proofs.Offered.{put_members_swap}
use Rattle.bson_model.specs.OrderedTrees.{put_at_key_position, tree_of_json, items_of_json, members_of_json, read_in_order, tree_sorted_by_key, items_sorted_by_key}
use Rattle.bson_model.specs.OrderedTrees.{members_sorted_by_key}

abbrev cmp : List ℕ → List ℕ → Ordering
cmp k l = slice_cmp nat_cmp k l

-- ---- a value that is inserted in its place is inserted

again_at : (o : Ordering) (k a : List ℕ) (v w x : Data) (ms : Members) → cmp k a ≡ o
    → put k v (put k w ms) ≡ put k v ms
    → put k v (put k w (member a x ms)) ≡ put k v (member a x ms)
again_at Less k a v w x ms h is = let s : cmp k k ≡ Equal = tied_itself nat_list_cmp_total k in rw (h, s) refl
again_at Equal k a v w x ms h is = rw (h, h) refl
again_at Greater k a v w x ms h is = rw (h, h) (ap (member a x) is)

-- the later value at a key stays
put_again : (k : List ℕ) (v w : Data) (ms : Members) → put k v (put k w ms) ≡ put k v ms
put_again k v w no_members = let s : cmp k k ≡ Equal = tied_itself nat_list_cmp_total k in rw s refl
put_again k v w (member a x ms) = again_at _ k a v w x ms refl (put_again k v w ms)

unequal : (k l : List ℕ) → bytes_eq k l ≡ false → k ≡ l → ⊥
unequal k l h e = let yes : bytes_eq k l ≡ true = (bytes_eq-Decides k l).1 e in cc

put_at : (b : Bool) (k l : List ℕ) (d e : Data) (ms : Members) → bytes_eq k l ≡ b
    → members_sorted_by_key (put_at_key_position k d ms) ≡ put k (tree_sorted_by_key d) (members_sorted_by_key ms)
    → members_sorted_by_key (cond b (member l d ms) (member l e (put_at_key_position k d ms)))
    ≡ put k (tree_sorted_by_key d) (put l (tree_sorted_by_key e) (members_sorted_by_key ms))
put_at true k l d e ms h is =
    let one : k ≡ l = (bytes_eq-Decides k l).0 h in
    let ns = members_sorted_by_key ms in
    subst (λ x. put l (tree_sorted_by_key d) ns ≡ put x (tree_sorted_by_key d) (put l (tree_sorted_by_key e) ns)) (sym one)
    (sym (put_again l (tree_sorted_by_key d) (tree_sorted_by_key e) ns))
put_at false k l d e ms h is = ap (put l (tree_sorted_by_key e)) is
    ∙ put_members_swap l k (tree_sorted_by_key e) (tree_sorted_by_key d) (members_sorted_by_key ms) (λ s. unequal k l h (sym s))

pub put_forgotten : (k : List ℕ) (d : Data) (ms : Members)
    → members_sorted_by_key (put_at_key_position k d ms) ≡ put k (tree_sorted_by_key d) (members_sorted_by_key ms)
put_forgotten k d no_members = refl
put_forgotten k d (member l e ms) = put_at (bytes_eq k l) k l d e ms refl (put_forgotten k d ms)

-- ---- the same of the whole

number_forgotten : (n : Option Num) → option_map number n ≡ option_map tree_sorted_by_key (option_map number n)
number_forgotten None = refl
number_forgotten (Some n) = refl

array_forgotten : (o : Option Items)
    → option_map array (option_map items_sorted_by_key o) ≡ option_map tree_sorted_by_key (option_map array o)
array_forgotten None = refl
array_forgotten (Some ds) = refl

object_forgotten : (o : Option Members)
    → option_map object (option_map members_sorted_by_key o) ≡ option_map tree_sorted_by_key (option_map object o)
object_forgotten None = refl
object_forgotten (Some ms) = refl

item_forgotten : (d : Option Data) (ds : Option Items)
    → option_and_then (λ e. option_map (item e) (option_map items_sorted_by_key ds)) (option_map tree_sorted_by_key d)
    ≡ option_map items_sorted_by_key (option_and_then (λ e. option_map (item e) ds) d)
item_forgotten None ds = refl
item_forgotten (Some d) None = refl
item_forgotten (Some d) (Some ds) = refl

then_forgotten : (d : Option Data) (f g : Data → Option Members)
    → ((e : Data) → f (tree_sorted_by_key e) ≡ option_map members_sorted_by_key (g e))
    → option_and_then f (option_map tree_sorted_by_key d) ≡ option_map members_sorted_by_key (option_and_then g d)
then_forgotten None f g h = refl
then_forgotten (Some d) f g h = h d

mutual
  pub forgotten : (j : json.Json) → of_json j ≡ option_map tree_sorted_by_key (tree_of_json j)
  forgotten json.null = refl
  forgotten (json.boolean b) = refl
  forgotten (json.number s) = number_forgotten (number_of s)
  forgotten (json.string s) = refl
  forgotten (json.array js) = ap (option_map array) (items_forgotten js) ∙ array_forgotten (items_of_json js)
  forgotten (json.object ms) =
      ap (option_map object) (members_forgotten ms no_members) ∙ object_forgotten (members_of_json ms no_members)

  items_forgotten : (js : json.Items) → of_items js ≡ option_map items_sorted_by_key (items_of_json js)
  items_forgotten json.no_items = refl
  items_forgotten (json.item j js) = rw (forgotten j, items_forgotten js) (item_forgotten (tree_of_json j) (items_of_json js))

  -- with what was found so far
  members_forgotten : (ms : json.Members) (found : Members)
      → of_members ms (members_sorted_by_key found) ≡ option_map members_sorted_by_key (members_of_json ms found)
  members_forgotten json.no_members found = refl
  members_forgotten (json.member k j ms) found =
      ap (λ o. option_and_then (λ d. of_members ms (put k d (members_sorted_by_key found))) o) (forgotten j)
      ∙ then_forgotten (tree_of_json j) (λ d. of_members ms (put k d (members_sorted_by_key found)))
      (λ d. members_of_json ms (put_at_key_position k d found))
      (λ d. ap (of_members ms) (sym (put_forgotten k d found)) ∙ members_forgotten ms (put_at_key_position k d found))

text_forgotten : (o : Option json.Json) → option_and_then of_json o ≡ option_map tree_sorted_by_key (option_and_then tree_of_json o)
text_forgotten None = refl
text_forgotten (Some j) = forgotten j

pub read_forgotten : (text : List ℕ) → read text ≡ option_map tree_sorted_by_key (read_in_order text)
read_forgotten text =
    text_forgotten (option_and_then (λ p. json.if_last p.0 p.1) (json.value max_depth (tokens text)))
