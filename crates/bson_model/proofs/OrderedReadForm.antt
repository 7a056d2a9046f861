-- What a tree in the order of a text means is plain and writable, in range, and has each key of a document once.
use Rattle.std.proofs.Common.{◌≡◌, ℕ, List, true, false, ◌||◌, refl, ap, ◌∙◌}
use Rattle.std.specs.Str.{bytes_eq}
use Rattle.std.proofs.lemmas.Bool.{or_parts}
use Rattle.serde_json.specs.Data.{Data, Items, Members}
use Rattle.bson_scalar.specs.Table.{wrapper_of, has_wrapper}
use Rattle.bson_scalar.specs.declared.form.Doubles.{Doubles}
use Rattle.bson_scalar.proofs.Offered as scalars
use Rattle.bson_model.specs.Laws.{IsReadFormIn}
use Rattle.bson_model.specs.Normal.{plain_items, plain_keys, plain_values, writable_items_in, writable_pairs_in}
use Rattle.bson_model.specs.Normal.{NumbersInRange, ItemsInRange, PairsInRange}
use Rattle.bson_model.specs.Value.{Value, Values, Pairs}
use Rattle.bson_model.specs.DistinctKeys.{has_pair, AllKeysDistinct, ItemKeysDistinct, PairKeysDistinct}
use Rattle.bson_model.specs.OrderedTrees.{has_key, KeysDiffer, IsTreeInOrder, tree_sorted_by_key, ItemsAreTreesInOrder, MembersAreTreesInOrder}
use Rattle.bson_model.specs.OrderedMeans.{MeansInOrder, scalar, code_with_scope, scope_with_code, array, document}
use Rattle.bson_model.specs.OrderedMeans.{MeansItemsInOrder, nothing, then, MeansDocumentInOrder, empty, entry}
use Rattle.bson_model.proofs.Scalars.{within_type_range}
use Rattle.bson_model.proofs.Settled.{kept_tree}
use Rattle.bson_model.proofs.ReadForm.{both_true, not_some}

module _ (D : Doubles) where
  -- ---- plain and writable

  abbrev ItemsForm : Values → Type 0
  ItemsForm vs = (plain_items vs ≡ true) × (writable_items_in D vs ≡ true)

  abbrev PairsForm : Pairs → Type 0
  PairsForm ps = (plain_values ps ≡ true) × (writable_pairs_in D ps ≡ true)

  keys_form : {ms : Members} {ps : Pairs} → MeansDocumentInOrder D ms ps → has_wrapper ms ≡ false → plain_keys ps ≡ true
  keys_form empty n = refl
  keys_form (entry k d v ms ps m t) n =
      let p = or_parts _ _ n in both_true _ _ (not_some (wrapper_of k) p.0) (keys_form t p.1)

  mutual
    pub form : {t : Data} {v : Value} → MeansInOrder D t v → IsReadFormIn D v
    form (scalar d x m) = (refl, (scalars.scalar_form D (tree_sorted_by_key d) x m).0)
    form (code_with_scope s ms ps m) = document_form m
    form (scope_with_code s ms ps m) = document_form m
    form (array ds vs m) = items_form m
    form (document ms ps none m) = let f = document_form m in (both_true _ _ (keys_form m none) f.0, f.1)

    items_form : {ds : Items} {vs : Values} → MeansItemsInOrder D ds vs → ItemsForm vs
    items_form nothing = (refl, refl)
    items_form (then d v ds vs m n) =
        let f = form m in let g = items_form n in (both_true _ _ f.0 g.0, both_true _ _ f.1 g.1)

    document_form : {ms : Members} {ps : Pairs} → MeansDocumentInOrder D ms ps → PairsForm ps
    document_form empty = (refl, refl)
    document_form (entry k d v ms ps m n) =
        let f = form m in let g = document_form n in (both_true _ _ f.0 g.0, both_true _ _ f.1 g.1)

  -- ---- in range

  mutual
    pub in_range : {t : Data} {v : Value} → MeansInOrder D t v → IsTreeInOrder t → NumbersInRange v
    in_range (scalar d x m) is = within_type_range D (tree_sorted_by_key d) x m (kept_tree d is)
    in_range (code_with_scope s ms ps m) is = document_range m is.1.1.0.1
    in_range (scope_with_code s ms ps m) is = document_range m is.1.0.1
    in_range (array ds vs m) is = items_range m is
    in_range (document ms ps none m) is = document_range m is.1

    items_range : {ds : Items} {vs : Values} → MeansItemsInOrder D ds vs → ItemsAreTreesInOrder ds → ItemsInRange vs
    items_range nothing is = tt
    items_range (then d v ds vs m n) is = (in_range m is.0, items_range n is.1)

    document_range : {ms : Members} {ps : Pairs} → MeansDocumentInOrder D ms ps → MembersAreTreesInOrder ms → PairsInRange ps
    document_range empty is = tt
    document_range (entry k d v ms ps m n) is = (in_range m is.0, document_range n is.1)

  -- ---- each key once

  same_keys : {ms : Members} {ps : Pairs} (q : List ℕ) → MeansDocumentInOrder D ms ps → has_pair q ps ≡ has_key q ms
  same_keys q empty = refl
  same_keys q (entry k d v ms ps m n) = ap (λ b. bytes_eq q k || b) (same_keys q n)

  mutual
    pub distinct : {t : Data} {v : Value} → MeansInOrder D t v → IsTreeInOrder t → AllKeysDistinct v
    distinct (scalar d x m) is = tt
    distinct (code_with_scope s ms ps m) is = document_distinct m is.1.1.0.0 is.1.1.0.1
    distinct (scope_with_code s ms ps m) is = document_distinct m is.1.0.0 is.1.0.1
    distinct (array ds vs m) is = items_distinct m is
    distinct (document ms ps none m) is = document_distinct m is.0 is.1

    items_distinct : {ds : Items} {vs : Values} → MeansItemsInOrder D ds vs → ItemsAreTreesInOrder ds → ItemKeysDistinct vs
    items_distinct nothing is = tt
    items_distinct (then d v ds vs m n) is = (distinct m is.0, items_distinct n is.1)

    document_distinct : {ms : Members} {ps : Pairs} → MeansDocumentInOrder D ms ps → KeysDiffer ms → MembersAreTreesInOrder ms
        → PairKeysDistinct ps
    document_distinct empty differ is = tt
    document_distinct (entry k d v ms ps m n) differ is =
        (same_keys k n ∙ differ.0, distinct m is.0, document_distinct n differ.1 is.1)
