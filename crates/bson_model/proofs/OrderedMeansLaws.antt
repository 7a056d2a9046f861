-- The grammar in order relates what reading in order gives, and nothing else.
use Rattle.std.proofs.Common.{◌≡◌, ℕ, List, Option, Result, Ok}
use Rattle.std.proofs.Common.{refl, sym, ap, ◌∙◌, codes}
use Rattle.std.specs.Str.{bytes_eq}
use Rattle.std.proofs.lemmas.Bool.{and_parts}
use Rattle.serde_json.specs.Data.{Data, Items, no_items, item, Members, no_members, member}
use Rattle.serde_json.specs.Data as tree
use Rattle.bson_scalar.specs.Faults.{Fault}
use Rattle.bson_scalar.specs.Means.{MeansScalarIn, null, boolean, text, code_without_scope}
use Rattle.bson_scalar.specs.Reading.{number_read_in, optional_wrapper_read_in, on_text}
use Rattle.bson_scalar.specs.Scalar.{Scalar}
use Rattle.bson_scalar.specs.Scalar as kind
use Rattle.bson_scalar.specs.TreeParts.{one_key_object, two_key_object}
use Rattle.bson_scalar.specs.Table.{wrapper_of, has_wrapper}
use Rattle.bson_scalar.specs.declared.form.Doubles.{Doubles}
use Rattle.bson_scalar.proofs.Offered as scalars
use Rattle.bson_model.specs.Means as by_default
use Rattle.bson_model.specs.Reading.{scalar_result_as_value, code_with_scope_read, code_value, scope_value}
use Rattle.bson_model.specs.Sorted.{sorted}
use Rattle.bson_model.specs.Value.{Value, Values, Pairs}
use Rattle.bson_model.specs.Value as model
use Rattle.bson_model.proofs.Offered.{fault_bind_ok, un_ok, means_one_in, means_to_in}
use Rattle.bson_model.specs.OrderedTrees.{tree_sorted_by_key, IsTreeInOrder, ItemsAreTreesInOrder, MembersAreTreesInOrder}
use Rattle.bson_model.specs.OrderedMeans.{MeansInOrder, scalar, code_with_scope, scope_with_code, array, document}
use Rattle.bson_model.specs.OrderedMeans.{MeansItemsInOrder, nothing, then, MeansDocumentInOrder, empty, entry}
use Rattle.bson_model.specs.OrderedReading.{reads_tree_in_order, reads_items_in_order, reads_members_in_order, reads_wrapper_in_order}
use Rattle.bson_model.specs.OrderedReading.{reads_scope_in_order}
use Rattle.bson_model.proofs.Complete.{read_in_order}
use Rattle.bson_model.proofs.Forgets.{forgets}
use Rattle.bson_model.proofs.OptionalValues.{same_bytes}
use Rattle.bson_model.proofs.MeansLaws.{on_text_value as on_text_at, split_from as either, guarded}

module _ (D : Doubles) where
  -- ---- from reading to the grammar

  scalar_from : (t : Data) (r : Result Scalar Fault) (v : Value)
      → ((x : Scalar) → r ≡ Ok x → MeansScalarIn D (tree_sorted_by_key t) x) → scalar_result_as_value r ≡ Ok v → MeansInOrder D t v
  scalar_from t r v f h = let b = fault_bind_ok r _ v h in rw (un_ok _ _ b.2) (scalar t b.0 (f b.0 b.1))

  -- no order is forgotten in a text
  text_alone : (d : Data) (s : List ℕ) → tree_sorted_by_key d ≡ tree.string s → d ≡ tree.string s
  text_alone tree.null s h = cc
  text_alone (tree.boolean b) s h = cc
  text_alone (tree.number n) s h = cc
  text_alone (tree.string t) s h = h
  text_alone (tree.array ds) s h = cc
  text_alone (tree.object ms) s h = cc

  -- the two keys, the code, and what was read of the scope
  code_parts : (k l : List ℕ) (d : Data) (scope : Result (Option Pairs) Fault) (v : Value)
      → code_with_scope_read k (tree_sorted_by_key d) l scope ≡ Ok v
      → (k ≡ codes "$code") × (l ≡ codes "$scope") × (s : List ℕ) × (d ≡ tree.string s) × (scope_value s scope ≡ Ok v)
  code_parts k l d scope v h =
      let g = guarded _ _ v h in
      let keys = and_parts _ _ g.0 in
      let t = on_text_at (tree_sorted_by_key d) _ v g.1 in
      (same_bytes k _ keys.0, same_bytes l _ keys.1, t.0, text_alone d t.0 t.1, t.2)

  mutual
    pub means_from : (t : Data) (v : Value) → reads_tree_in_order D t ≡ Ok v → MeansInOrder D t v
    means_from tree.null v h = rw (un_ok _ _ h) (scalar tree.null kind.null (scalars.in_each D null))
    means_from (tree.boolean b) v h =
        rw (un_ok _ _ h) (scalar (tree.boolean b) (kind.boolean b) (scalars.in_each D (boolean b)))
    means_from (tree.number n) v h =
        scalar_from (tree.number n) (number_read_in D n) v (scalars.scalar_from D (tree.number n)) h
    means_from (tree.string s) v h =
        rw (un_ok _ _ h) (scalar (tree.string s) (kind.text s) (scalars.in_each D (text s)))
    means_from (tree.array ds) v h =
        let b = fault_bind_ok (reads_items_in_order D ds) _ v h in rw (un_ok _ _ b.2) (array ds b.0 (items_from ds b.0 b.1))
    means_from (tree.object ms) v h =
        either (has_wrapper ms) _ _ v (MeansInOrder D (tree.object ms) v) h (λ g. wrapper_from ms v g)
        (λ none g. let b = fault_bind_ok (reads_members_in_order D ms) _ v g in
        rw (un_ok _ _ b.2) (document ms b.0 none (document_from ms b.0 b.1)))

    pub items_from : (ds : Items) (vs : Values) → reads_items_in_order D ds ≡ Ok vs → MeansItemsInOrder D ds vs
    items_from no_items vs h = rw (un_ok _ _ h) nothing
    items_from (item d ds) vs h =
        let b = fault_bind_ok (reads_tree_in_order D d) _ vs h in
        let c = fault_bind_ok (reads_items_in_order D ds) _ vs b.2 in
        rw (un_ok _ _ c.2) (then d b.0 ds c.0 (means_from d b.0 b.1) (items_from ds c.0 c.1))

    pub document_from : (ms : Members) (ps : Pairs) → reads_members_in_order D ms ≡ Ok ps → MeansDocumentInOrder D ms ps
    document_from no_members ps h = rw (un_ok _ _ h) empty
    document_from (member k d ms) ps h =
        let b = fault_bind_ok (reads_tree_in_order D d) _ ps h in
        let c = fault_bind_ok (reads_members_in_order D ms) _ ps b.2 in
        rw (un_ok _ _ c.2) (entry k d b.0 ms c.0 (means_from d b.0 b.1) (document_from ms c.0 c.1))

    wrapper_from : (ms : Members) (v : Value) → reads_wrapper_in_order D ms ≡ Ok v → MeansInOrder D (tree.object ms) v
    wrapper_from no_members v h = cc
    wrapper_from (member k d no_members) v h =
        scalar_from (one_key_object k d) (optional_wrapper_read_in D (wrapper_of k) (tree_sorted_by_key d)) v
        (scalars.scalar_from D (one_key_object k (tree_sorted_by_key d))) h
    wrapper_from (member k d (member l e no_members)) v h =
        either (bytes_eq k (codes "$scope")) _ _ v (MeansInOrder D (two_key_object k d l e) v) h
        (λ g. let c = code_parts l k e (reads_scope_in_order D d) v g in rw (c.0, c.1, c.3) (scope_first c.2 d v c.4))
        (λ other g. let c = code_parts k l d (reads_scope_in_order D e) v g in rw (c.0, c.1, c.3) (scope_last c.2 e v c.4))
    wrapper_from (member k d (member l e (member m f ms))) v h = cc

    scope_first : (s : List ℕ) (e : Data) (v : Value) → scope_value s (reads_scope_in_order D e) ≡ Ok v
        → MeansInOrder D (two_key_object (codes "$scope") e (codes "$code") (tree.string s)) v
    scope_first s tree.null v h = rw (un_ok _ _ h) (scalar _ _ (scalars.in_each D (code_without_scope s)))
    scope_first s (tree.boolean b) v h = cc
    scope_first s (tree.number n) v h = cc
    scope_first s (tree.string t) v h = cc
    scope_first s (tree.array ds) v h = cc
    scope_first s (tree.object ms) v h =
        let b = fault_bind_ok (reads_scope_in_order D (tree.object ms)) _ v h in
        let c = fault_bind_ok (reads_members_in_order D ms) _ b.0 b.1 in
        rw (un_ok _ _ b.2 ∙ ap (code_value s) (un_ok _ _ c.2)) (scope_with_code s ms c.0 (document_from ms c.0 c.1))

    scope_last : (s : List ℕ) (e : Data) (v : Value) → scope_value s (reads_scope_in_order D e) ≡ Ok v
        → MeansInOrder D (two_key_object (codes "$code") (tree.string s) (codes "$scope") e) v
    scope_last s tree.null v h = rw (un_ok _ _ h) (scalar _ _ (scalars.in_each D (code_without_scope s)))
    scope_last s (tree.boolean b) v h = cc
    scope_last s (tree.number n) v h = cc
    scope_last s (tree.string t) v h = cc
    scope_last s (tree.array ds) v h = cc
    scope_last s (tree.object ms) v h =
        let b = fault_bind_ok (reads_scope_in_order D (tree.object ms)) _ v h in
        let c = fault_bind_ok (reads_members_in_order D ms) _ b.0 b.1 in
        rw (un_ok _ _ b.2 ∙ ap (code_value s) (un_ok _ _ c.2)) (code_with_scope s ms c.0 (document_from ms c.0 c.1))

  -- ---- from the grammar to reading

  scalar_alone : (v : Value) (x : Scalar) → sorted v ≡ model.scalar x → v ≡ model.scalar x
  scalar_alone (model.scalar y) x h = h
  scalar_alone (model.code_scope s ps) x h = cc
  scalar_alone (model.array vs) x h = cc
  scalar_alone (model.document ps) x h = cc

  -- a tree that means a scalar is read as it, since it is read as something
  scalar_to : (d : Data) (x : Scalar) → MeansScalarIn D (tree_sorted_by_key d) x → IsTreeInOrder d
      → reads_tree_in_order D d ≡ Ok (model.scalar x)
  scalar_to d x m is =
      let sorted_means : by_default.MeansIn D (tree_sorted_by_key d) (model.scalar x) = by_default.scalar (tree_sorted_by_key d) x m in
      let it = read_in_order D d (model.scalar x) is (means_to_in D sorted_means) in
      let means = forgets D (means_from d it.0 it.1) in
      let same = means_one_in D (tree_sorted_by_key d) (sorted it.0) (model.scalar x) means sorted_means in
      it.1 ∙ ap Ok (scalar_alone it.0 x same)

  mutual
    pub means_in : {t : Data} {v : Value} → MeansInOrder D t v → IsTreeInOrder t → reads_tree_in_order D t ≡ Ok v
    means_in (scalar d x m) is = scalar_to d x m is
    means_in (code_with_scope s ms ps m) is = rw (document_in m is.1.1.0.1) refl
    means_in (scope_with_code s ms ps m) is = rw (document_in m is.1.0.1) refl
    means_in (array ds vs m) is = rw (items_in m is) refl
    means_in (document ms ps none m) is = rw (none, document_in m is.1) refl

    pub items_in : {ds : Items} {vs : Values} → MeansItemsInOrder D ds vs → ItemsAreTreesInOrder ds
        → reads_items_in_order D ds ≡ Ok vs
    items_in nothing is = refl
    items_in (then d v ds vs m n) is = rw (means_in m is.0, items_in n is.1) refl

    pub document_in : {ms : Members} {ps : Pairs} → MeansDocumentInOrder D ms ps → MembersAreTreesInOrder ms
        → reads_members_in_order D ms ≡ Ok ps
    document_in empty is = refl
    document_in (entry k d v ms ps m n) is = rw (means_in m is.0, document_in n is.1) refl

  pub one_in_order : (t : Data) (v w : Value) → IsTreeInOrder t → MeansInOrder D t v → MeansInOrder D t w → v ≡ w
  one_in_order t v w is m n = un_ok _ _ (sym (means_in n is) ∙ means_in m is)

  -- ---- what has a meaning by default has one in order

  pub meant_in_order : (t : Data) (w : Value) → IsTreeInOrder t → by_default.MeansIn D (tree_sorted_by_key t) w
      → (v : Value) × MeansInOrder D t v × (sorted v ≡ w)
  meant_in_order t w is m =
      let it = read_in_order D t w is (means_to_in D m) in
      let means = means_from t it.0 it.1 in
      (it.0, means, means_one_in D (tree_sorted_by_key t) (sorted it.0) w (forgets D means) m)
