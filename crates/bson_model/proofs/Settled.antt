-- Trees whose keys ascend, and those whose order is forgotten.
use Rattle.std.proofs.Common.{◌≡◌, ℕ, List, Bool, true, false, Ordering, Less, Equal, refl, sym, ap, subst}
use Rattle.std.proofs.lemmas.Bool.{or_from}
use Rattle.std.proofs.lemmas.Cmp.{nat_list_cmp_total, tied_itself}
use Rattle.std.specs.Cmp.Lexicographic.{slice_cmp}
use Rattle.std.specs.Ordering.{nat_cmp}
use Rattle.std.specs.Str.{bytes_eq}
use Rattle.serde_json.specs.Data.{Data, Items, no_items, item, Members, no_members, member, put}
use Rattle.serde_json.specs.Data as tree
use Rattle.bson_model.specs.Texts.{IsTree, ItemsAreTrees, MembersAreTrees, IsBelowMemberKeys, MemberKeysAscend}
use Rattle.bson_model.proofs.Offered.{ascends_put, trees_put}
use Rattle.bson_model.specs.OrderedTrees.{tree_sorted_by_key, items_sorted_by_key, members_sorted_by_key, has_key, KeysDiffer, IsTreeInOrder}
use Rattle.bson_model.specs.OrderedTrees.{ItemsAreTreesInOrder, MembersAreTreesInOrder}
use Rattle.bson_model.proofs.OptionalValues.{same_bytes}

abbrev cmp : List ℕ → List ℕ → Ordering
cmp k l = slice_cmp nat_cmp k l

-- ---- a tree whose keys ascend has no other order

put_least : (k : List ℕ) (d : Data) (ms : Members) → IsBelowMemberKeys k ms → put k d ms ≡ member k d ms
put_least k d no_members h = refl
put_least k d (member l e ms) h = rw h.0 refl

mutual
  pub settled : (t : Data) → IsTree t → tree_sorted_by_key t ≡ t
  settled tree.null h = refl
  settled (tree.boolean b) h = refl
  settled (tree.number n) h = refl
  settled (tree.string s) h = refl
  settled (tree.array ds) h = ap tree.array (items_settled ds h)
  settled (tree.object ms) h = ap tree.object (members_settled ms h.0 h.1)

  items_settled : (ds : Items) → ItemsAreTrees ds → items_sorted_by_key ds ≡ ds
  items_settled no_items h = refl
  items_settled (item d ds) h = rw (settled d h.0, items_settled ds h.1) refl

  members_settled : (ms : Members) → MemberKeysAscend ms → MembersAreTrees ms → members_sorted_by_key ms ≡ ms
  members_settled no_members up h = refl
  members_settled (member k d ms) up h = rw (settled d h.0, members_settled ms up.1 h.1) (put_least k d ms up.0)

-- ---- and has each key once

apart_at : (b : Bool) (k l : List ℕ) → bytes_eq k l ≡ b → cmp k l ≡ Less → b ≡ false
apart_at false k l e h = refl
apart_at true k l e h =
    let less : cmp k k ≡ Less = subst (λ q. cmp k q ≡ Less) (sym (same_bytes k l e)) h in
    let tied : cmp k k ≡ Equal = tied_itself nat_list_cmp_total k in cc

below_new : (k : List ℕ) (ms : Members) → IsBelowMemberKeys k ms → has_key k ms ≡ false
below_new k no_members h = refl
below_new k (member l d ms) h =
    or_from (bytes_eq k l) (has_key k ms) (apart_at (bytes_eq k l) k l refl h.0) (below_new k ms h.1)

mutual
  pub tree_kept : (t : Data) → IsTree t → IsTreeInOrder t
  tree_kept tree.null h = tt
  tree_kept (tree.boolean b) h = tt
  tree_kept (tree.number n) h = h
  tree_kept (tree.string s) h = tt
  tree_kept (tree.array ds) h = items_kept ds h
  tree_kept (tree.object ms) h = (members_differ ms h.0, members_kept ms h.1)

  items_kept : (ds : Items) → ItemsAreTrees ds → ItemsAreTreesInOrder ds
  items_kept no_items h = tt
  items_kept (item d ds) h = (tree_kept d h.0, items_kept ds h.1)

  members_differ : (ms : Members) → MemberKeysAscend ms → KeysDiffer ms
  members_differ no_members h = tt
  members_differ (member k d ms) h = (below_new k ms h.0, members_differ ms h.1)

  members_kept : (ms : Members) → MembersAreTrees ms → MembersAreTreesInOrder ms
  members_kept no_members h = tt
  members_kept (member k d ms) h = (tree_kept d h.0, members_kept ms h.1)

-- ---- with the order forgotten the keys ascend

mutual
  pub kept_tree : (t : Data) → IsTreeInOrder t → IsTree (tree_sorted_by_key t)
  kept_tree tree.null h = tt
  kept_tree (tree.boolean b) h = tt
  kept_tree (tree.number n) h = h
  kept_tree (tree.string s) h = tt
  kept_tree (tree.array ds) h = kept_items ds h
  kept_tree (tree.object ms) h = kept_members ms h.1

  kept_items : (ds : Items) → ItemsAreTreesInOrder ds → ItemsAreTrees (items_sorted_by_key ds)
  kept_items no_items h = tt
  kept_items (item d ds) h = (kept_tree d h.0, kept_items ds h.1)

  kept_members : (ms : Members) → MembersAreTreesInOrder ms
      → MemberKeysAscend (members_sorted_by_key ms) × MembersAreTrees (members_sorted_by_key ms)
  kept_members no_members h = (tt, tt)
  kept_members (member k d ms) h =
      let rest = kept_members ms h.1 in (
        ascends_put k (tree_sorted_by_key d) (members_sorted_by_key ms) rest.0,
        trees_put k (tree_sorted_by_key d) (members_sorted_by_key ms) (kept_tree d h.0) rest.1,
      )
