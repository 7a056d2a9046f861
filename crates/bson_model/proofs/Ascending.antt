-- What a tree means has the pairs of each document by ascending key.
use Rattle.std.proofs.Common.{◌≡◌, ℕ, List, refl, ap}
use Rattle.serde_json.specs.Data.{Data, Items, Members}
use Rattle.bson_model.specs.Value.{Value, code_scope, Values, Pairs, pair}
use Rattle.bson_model.specs.Value as model
use Rattle.bson_model.specs.Means.{MeansIn, scalar, code_with_scope, array, document, MeansItemsIn, nothing, then}
use Rattle.bson_model.specs.Means.{MeansDocumentIn, empty, entry}
use Rattle.bson_model.specs.Sorted.{insert_sorted_pair, sorted, sorted_items, sorted_pairs, IsBelowKeys, KeysAscend}
use Rattle.bson_model.specs.Texts.{IsBelowMemberKeys, MemberKeysAscend, IsTree, ItemsAreTrees, MembersAreTrees}
use Rattle.bson_scalar.specs.declared.form.Doubles.{Doubles}

module _ (D : Doubles) where
  put_first : {ms : Members} {ps : Pairs} (k : List ℕ) (v : Value) → MeansDocumentIn D ms ps → IsBelowMemberKeys k ms
      → insert_sorted_pair k v ps ≡ pair k v ps
  put_first k v empty below = refl
  put_first k v (entry l e w ms ps m n) below = rw below.0 refl

  mutual
    pub is_sorted : {t : Data} {v : Value} → MeansIn D t v → IsTree t → sorted v ≡ v
    is_sorted (scalar d x m) is = refl
    is_sorted (code_with_scope s ms ps m) is = ap (code_scope s) (pairs_sorted m is.1.1.0.0 is.1.1.0.1)
    is_sorted (array ds vs m) is = ap model.array (items_sorted m is)
    is_sorted (document ms ps none m) is = ap model.document (pairs_sorted m is.0 is.1)

    items_sorted : {ds : Items} {vs : Values} → MeansItemsIn D ds vs → ItemsAreTrees ds → sorted_items vs ≡ vs
    items_sorted nothing is = refl
    items_sorted (then d v ds vs m n) is = rw (is_sorted m is.0, items_sorted n is.1) refl

    pairs_sorted : {ms : Members} {ps : Pairs} → MeansDocumentIn D ms ps → MemberKeysAscend ms → MembersAreTrees ms
        → sorted_pairs ps ≡ ps
    pairs_sorted empty up are = refl
    pairs_sorted (entry k d v ms ps m n) up are = rw (is_sorted m are.0, pairs_sorted n up.1 are.1) (put_first k v n up.0)

  below : {ms : Members} {ps : Pairs} (k : List ℕ) → MeansDocumentIn D ms ps → IsBelowMemberKeys k ms → IsBelowKeys k ps
  below k empty b = tt
  below k (entry l e w ms ps m n) b = (b.0, below k n b.1)

  -- the document of a map has its keys in the map's order
  pub keys_ascend : {ms : Members} {ps : Pairs} → MeansDocumentIn D ms ps → MemberKeysAscend ms → KeysAscend ps
  keys_ascend empty up = tt
  keys_ascend (entry k d v ms ps m n) up = (below k n up.0, keys_ascend n up.1)
