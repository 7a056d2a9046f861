-- With its order forgotten a tree means the same value, with the keys of each document in ascending order.
use Rattle.std.proofs.Common.{ℕ, List, Ordering, Less, Equal, Greater, ◌∙◌}
use Rattle.std.specs.Cmp.Lexicographic.{slice_cmp}
use Rattle.std.specs.Ordering.{nat_cmp, match_ordering}
use Rattle.serde_json.specs.Data.{Data, Items, Members, no_members, member, put}
use Rattle.bson_scalar.specs.declared.form.Doubles.{Doubles}
use Rattle.bson_model.specs.Means.{MeansIn, MeansItemsIn, MeansDocumentIn}
use Rattle.bson_model.specs.Means as sorted_tree
use Rattle.bson_model.specs.Sorted.{insert_sorted_pair, sorted, sorted_items, sorted_pairs}
use Rattle.bson_model.specs.Value.{Value, Values, Pairs, no_pairs, pair}
use Rattle.bson_model.specs.OrderedTrees.{tree_sorted_by_key, items_sorted_by_key, members_sorted_by_key}
use Rattle.bson_model.specs.OrderedMeans.{MeansInOrder, scalar, code_with_scope, scope_with_code, array, document}
use Rattle.bson_model.specs.OrderedMeans.{MeansItemsInOrder, nothing, then, MeansDocumentInOrder, empty, entry}
use Rattle.bson_model.proofs.SortedKeys.{same_wrapper}

abbrev cmp : List ℕ → List ℕ → Ordering
cmp k l = slice_cmp nat_cmp k l

module _ (D : Doubles) where
  put_at : (o : Ordering) (k l : List ℕ) (d e : Data) (v w : Value) (ms : Members) (ps : Pairs) → MeansIn D d v
      → MeansIn D e w → MeansDocumentIn D ms ps → MeansDocumentIn D (put k d ms) (insert_sorted_pair k v ps)
      → MeansDocumentIn D (match_ordering o (member k d (member l e ms)) (member l d ms) (member l e (put k d ms)))
      (match_ordering o (pair k v (pair l w ps)) (pair l v ps) (pair l w (insert_sorted_pair k v ps)))
  put_at Less k l d e v w ms ps m n ns is =
      sorted_tree.entry k d v (member l e ms) (pair l w ps) m (sorted_tree.entry l e w ms ps n ns)
  put_at Equal k l d e v w ms ps m n ns is = sorted_tree.entry l d v ms ps m ns
  put_at Greater k l d e v w ms ps m n ns is = sorted_tree.entry l e w (put k d ms) (insert_sorted_pair k v ps) n is

  -- what is inserted at a key of the object is inserted at that of the document
  put_means : {ms : Members} {ps : Pairs} (k : List ℕ) (d : Data) (v : Value) → MeansIn D d v → MeansDocumentIn D ms ps
      → MeansDocumentIn D (put k d ms) (insert_sorted_pair k v ps)
  put_means k d v m sorted_tree.empty = sorted_tree.entry k d v no_members no_pairs m sorted_tree.empty
  put_means k d v m (sorted_tree.entry l e w ms ps n ns) =
      put_at (cmp k l) k l d e v w ms ps m n ns (put_means k d v m ns)

  mutual
    pub forgets : {t : Data} {v : Value} → MeansInOrder D t v → MeansIn D (tree_sorted_by_key t) (sorted v)
    forgets (scalar d x m) = sorted_tree.scalar (tree_sorted_by_key d) x m
    forgets (code_with_scope s ms ps m) =
        sorted_tree.code_with_scope s (members_sorted_by_key ms) (sorted_pairs ps) (document_forgets m)
    forgets (scope_with_code s ms ps m) =
        sorted_tree.code_with_scope s (members_sorted_by_key ms) (sorted_pairs ps) (document_forgets m)
    forgets (array ds vs m) = sorted_tree.array (items_sorted_by_key ds) (sorted_items vs) (items_forget m)
    forgets (document ms ps none m) =
        sorted_tree.document (members_sorted_by_key ms) (sorted_pairs ps) (same_wrapper ms ∙ none) (document_forgets m)

    items_forget : {ds : Items} {vs : Values} → MeansItemsInOrder D ds vs
        → MeansItemsIn D (items_sorted_by_key ds) (sorted_items vs)
    items_forget nothing = sorted_tree.nothing
    items_forget (then d v ds vs m n) =
        sorted_tree.then (tree_sorted_by_key d) (sorted v) (items_sorted_by_key ds) (sorted_items vs) (forgets m) (items_forget n)

    document_forgets : {ms : Members} {ps : Pairs} → MeansDocumentInOrder D ms ps
        → MeansDocumentIn D (members_sorted_by_key ms) (sorted_pairs ps)
    document_forgets empty = sorted_tree.empty
    document_forgets (entry k d v ms ps m n) = put_means k (tree_sorted_by_key d) (sorted v) (forgets m) (document_forgets n)
