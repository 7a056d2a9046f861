-- What writing in order gives is the grammar's one tree; with its order forgotten it is the tree by default, and it
-- means the value again.
use Rattle.std.proofs.Common.{◌≡◌, true, false, Result, Ok, Err, refl, sym}
use Rattle.std.proofs.Common.{ap, ◌∙◌, subst}
use Rattle.std.specs.Prelude.{is_ok}
use Rattle.std.proofs.lemmas.Bool.{and_parts, or_from}
use Rattle.serde_json.specs.Data.{Data, Items, item, Members, member}
use Rattle.serde_json.specs.Data as tree
use Rattle.bson_scalar.specs.Normal.{normal_scalar, scalar_as_read_back}
use Rattle.bson_scalar.specs.Scalar.{Scalar}
use Rattle.bson_scalar.specs.Table.{wrapper_of, has_wrapper}
use Rattle.bson_scalar.specs.OrderedScalars.{WrittenScalarInOrder}
use Rattle.bson_scalar.specs.Written.{WriteFault}
use Rattle.bson_scalar.specs.declared.form.Doubles.{Doubles}
use Rattle.bson_scalar.specs.declared.form.Form.{Form}
use Rattle.bson_scalar.proofs.Offered as scalars
use Rattle.bson_model.specs.Normal.{normal_form, map_scalars, map_scalars_of_items, map_scalars_of_pairs, as_read_back}
use Rattle.bson_model.specs.Normal.{plain, plain_items, plain_keys, plain_values, writable_in}
use Rattle.bson_model.specs.Normal.{writable_items_in, writable_pairs_in, NumbersInRange, ItemsInRange, PairsInRange}
use Rattle.bson_model.specs.Value.{Value, scalar, code_scope, array, document, Values, no_values, value, Pairs}
use Rattle.bson_model.specs.Value.{no_pairs, pair}
use Rattle.bson_model.specs.Writing.{with_scope}
use Rattle.bson_model.specs.Written.{WrittenIn, WrittenItemsIn, WrittenDocumentIn}
use Rattle.bson_model.proofs.Offered.{as_read_each, bind_ok, un_ok}
use Rattle.bson_model.specs.OrderedTrees.{tree_sorted_by_key, items_sorted_by_key, members_sorted_by_key}
use Rattle.bson_model.specs.OrderedMeans.{MeansInOrder, MeansItemsInOrder, MeansDocumentInOrder}
use Rattle.bson_model.specs.OrderedMeans as means
use Rattle.bson_model.specs.OrderedWriting.{writes_value_in_order, writes_items_in_order, writes_pairs_in_order}
use Rattle.bson_model.specs.OrderedWritten.{WrittenInOrder, WrittenItemsInOrder, WrittenDocumentInOrder}
use Rattle.bson_model.proofs.Scalars.{reads_back}
use Rattle.bson_model.proofs.SortedScalars.{scalar_sorted}
use Rattle.bson_model.proofs.WriteLaws.{ok_both, ok_bind}
use Rattle.bson_model.proofs.ReadBack.{no_wrapper}

module _ (D : Doubles) where
  -- ---- the function and the grammar

  mutual
    pub written_from : (f : Form) (v : Value) (t : Data) → writes_value_in_order D f v ≡ Ok t
        → WrittenInOrder D f (normal_form v) t
    written_from f (scalar x) t h = scalars.order_written_from D f x t h
    written_from f (code_scope s ps) t h =
        let b = bind_ok (writes_pairs_in_order D f ps) _ t h in (b.0, pairs_from f ps b.0 b.1, un_ok _ _ b.2)
    written_from f (array vs) t h =
        let b = bind_ok (writes_items_in_order D f vs) _ t h in (b.0, items_from f vs b.0 b.1, un_ok _ _ b.2)
    written_from f (document ps) t h =
        let b = bind_ok (writes_pairs_in_order D f ps) _ t h in (b.0, pairs_from f ps b.0 b.1, un_ok _ _ b.2)

    pub items_from : (f : Form) (vs : Values) (ds : Items) → writes_items_in_order D f vs ≡ Ok ds
        → WrittenItemsInOrder D f (map_scalars_of_items normal_scalar vs) ds
    items_from f no_values ds h = un_ok _ _ h
    items_from f (value v vs) ds h =
        let b = bind_ok (writes_value_in_order D f v) _ ds h in
        let c = bind_ok (writes_items_in_order D f vs) _ ds b.2 in
        (b.0, c.0, written_from f v b.0 b.1, items_from f vs c.0 c.1, un_ok _ _ c.2)

    pub pairs_from : (f : Form) (ps : Pairs) (ms : Members) → writes_pairs_in_order D f ps ≡ Ok ms
        → WrittenDocumentInOrder D f (map_scalars_of_pairs normal_scalar ps) ms
    pairs_from f no_pairs ms h = un_ok _ _ h
    pairs_from f (pair k v ps) ms h =
        let b = bind_ok (writes_value_in_order D f v) _ ms h in
        let c = bind_ok (writes_pairs_in_order D f ps) _ ms b.2 in
        (b.0, c.0, written_from f v b.0 b.1, pairs_from f ps c.0 c.1, un_ok _ _ c.2)

  mutual
    pub written_to : (f : Form) (v : Value) (t : Data) → WrittenInOrder D f (normal_form v) t
        → writes_value_in_order D f v ≡ Ok t
    written_to f (scalar x) t h = scalars.order_written_to D f x t h
    written_to f (code_scope s ps) t h = rw (pairs_to f ps h.0 h.1) (ap Ok (sym h.2))
    written_to f (array vs) t h = rw (items_to f vs h.0 h.1) (ap Ok (sym h.2))
    written_to f (document ps) t h = rw (pairs_to f ps h.0 h.1) (ap Ok (sym h.2))

    pub items_to : (f : Form) (vs : Values) (ds : Items)
        → WrittenItemsInOrder D f (map_scalars_of_items normal_scalar vs) ds → writes_items_in_order D f vs ≡ Ok ds
    items_to f no_values ds h = ap Ok (sym h)
    items_to f (value v vs) ds h = rw (written_to f v h.0 h.2, items_to f vs h.1 h.3) (ap Ok (sym h.4))

    pub pairs_to : (f : Form) (ps : Pairs) (ms : Members)
        → WrittenDocumentInOrder D f (map_scalars_of_pairs normal_scalar ps) ms → writes_pairs_in_order D f ps ≡ Ok ms
    pairs_to f no_pairs ms h = ap Ok (sym h)
    pairs_to f (pair k v ps) ms h = rw (written_to f v h.0 h.2, pairs_to f ps h.1 h.3) (ap Ok (sym h.4))

  -- a value has one tree in its order
  pub one_written : (f : Form) (v : Value) (t u : Data) → WrittenInOrder D f (normal_form v) t
      → WrittenInOrder D f (normal_form v) u → u ≡ t
  one_written f v t u h g = un_ok _ _ (sym (written_to f v t h) ∙ written_to f v u g)

  -- ---- what is written

  mutual
    pub writable_is : (f : Form) (v : Value) → is_ok (writes_value_in_order D f v) ≡ writable_in D v
    writable_is f (scalar x) = scalars.order_writable_is D f x
    writable_is f (code_scope s ps) = ok_bind (writes_pairs_in_order D f ps) (with_scope s) ∙ pairs_writable f ps
    writable_is f (array vs) = ok_bind (writes_items_in_order D f vs) tree.array ∙ items_writable f vs
    writable_is f (document ps) = ok_bind (writes_pairs_in_order D f ps) tree.object ∙ pairs_writable f ps

    items_writable : (f : Form) (vs : Values) → is_ok (writes_items_in_order D f vs) ≡ writable_items_in D vs
    items_writable f no_values = refl
    items_writable f (value v vs) =
        ok_both (writes_value_in_order D f v) (writes_items_in_order D f vs) item ∙ rw (writable_is f v, items_writable f vs) refl

    pairs_writable : (f : Form) (ps : Pairs) → is_ok (writes_pairs_in_order D f ps) ≡ writable_pairs_in D ps
    pairs_writable f no_pairs = refl
    pairs_writable f (pair k v ps) =
        ok_both (writes_value_in_order D f v) (writes_pairs_in_order D f ps) (member k)
        ∙ rw (writable_is f v, pairs_writable f ps) refl

  tree_of : (r : Result Data WriteFault) → is_ok r ≡ true → (t : Data) × (r ≡ Ok t)
  tree_of (Ok t) h = (t, refl)
  tree_of (Err e) h = cc

  pub writable_has_tree : (f : Form) (v : Value) → writable_in D v ≡ true
      → (t : Data) × WrittenInOrder D f (normal_form v) t
  writable_has_tree f v w =
      let it = tree_of (writes_value_in_order D f v) (writable_is f v ∙ w) in (it.0, written_from f v it.0 it.1)

  -- ---- with the order forgotten

  mutual
    pub default_written : (f : Form) (v : Value) (t : Data) → WrittenInOrder D f (normal_form v) t → NumbersInRange v
        → WrittenIn D f (normal_form v) (tree_sorted_by_key t)
    default_written f (scalar x) t h r = scalar_sorted D f x t h r
    default_written f (code_scope s ps) t h r =
        (members_sorted_by_key h.0, default_pairs f ps h.0 h.1 r, ap tree_sorted_by_key h.2)
    default_written f (array vs) t h r = (items_sorted_by_key h.0, default_items f vs h.0 h.1 r, ap tree_sorted_by_key h.2)
    default_written f (document ps) t h r = (members_sorted_by_key h.0, default_pairs f ps h.0 h.1 r, ap tree_sorted_by_key h.2)

    default_items : (f : Form) (vs : Values) (ds : Items)
        → WrittenItemsInOrder D f (map_scalars_of_items normal_scalar vs) ds → ItemsInRange vs
        → WrittenItemsIn D f (map_scalars_of_items normal_scalar vs) (items_sorted_by_key ds)
    default_items f no_values ds h r = ap items_sorted_by_key h
    default_items f (value v vs) ds h r = (
      tree_sorted_by_key h.0,
      items_sorted_by_key h.1,
      default_written f v h.0 h.2 r.0,
      default_items f vs h.1 h.3 r.1,
      ap items_sorted_by_key h.4,
    )

    default_pairs : (f : Form) (ps : Pairs) (ms : Members)
        → WrittenDocumentInOrder D f (map_scalars_of_pairs normal_scalar ps) ms → PairsInRange ps
        → WrittenDocumentIn D f (map_scalars_of_pairs normal_scalar ps) (members_sorted_by_key ms)
    default_pairs f no_pairs ms h r = ap members_sorted_by_key h
    default_pairs f (pair k v ps) ms h r = (
      tree_sorted_by_key h.0,
      members_sorted_by_key h.1,
      default_written f v h.0 h.2 r.0,
      default_pairs f ps h.1 h.3 r.1,
      ap members_sorted_by_key h.4,
    )

  -- ---- a plain value's tree means its normal form, in the same order

  keys_plain : (f : Form) (ps : Pairs) (ms : Members)
      → WrittenDocumentInOrder D f (map_scalars_of_pairs normal_scalar ps) ms → plain_keys ps ≡ true
      → has_wrapper ms ≡ false
  keys_plain f no_pairs ms h p = ap has_wrapper h
  keys_plain f (pair k v ps) ms h p =
      let q = and_parts _ _ p in
      ap has_wrapper h.4 ∙ or_from _ _ (no_wrapper (wrapper_of k) q.0) (keys_plain f ps h.1 h.3 q.1)

  scalar_back : (f : Form) (x : Scalar) (t : Data) → WrittenScalarInOrder D f (normal_scalar x) t
      → NumbersInRange (scalar x) → MeansInOrder D t (scalar (scalar_as_read_back f (normal_scalar x)))
  scalar_back f x t h r =
      means.scalar t (scalar_as_read_back f (normal_scalar x))
      (reads_back D f x (tree_sorted_by_key t) (scalar_sorted D f x t h r) r)

  mutual
    back : (f : Form) (v : Value) (t : Data) → WrittenInOrder D f (normal_form v) t → plain v ≡ true → NumbersInRange v
        → MeansInOrder D t (map_scalars (scalar_as_read_back f) (normal_form v))
    back f (scalar x) t h p r = scalar_back f x t h r
    back f (code_scope s ps) t h p r = rw h.2 (means.code_with_scope s h.0 _ (pairs_back f ps h.0 h.1 p r))
    back f (array vs) t h p r = rw h.2 (means.array h.0 _ (items_back f vs h.0 h.1 p r))
    back f (document ps) t h p r =
        let q = and_parts _ _ p in
        rw h.2 (means.document h.0 _ (keys_plain f ps h.0 h.1 q.0) (pairs_back f ps h.0 h.1 q.1 r))

    items_back : (f : Form) (vs : Values) (ds : Items)
        → WrittenItemsInOrder D f (map_scalars_of_items normal_scalar vs) ds → plain_items vs ≡ true → ItemsInRange vs
        → MeansItemsInOrder D ds (map_scalars_of_items (scalar_as_read_back f) (map_scalars_of_items normal_scalar vs))
    items_back f no_values ds h p r = rw h means.nothing
    items_back f (value v vs) ds h p r =
        let q = and_parts _ _ p in
        rw h.4 (means.then h.0 _ h.1 _ (back f v h.0 h.2 q.0 r.0) (items_back f vs h.1 h.3 q.1 r.1))

    pairs_back : (f : Form) (ps : Pairs) (ms : Members)
        → WrittenDocumentInOrder D f (map_scalars_of_pairs normal_scalar ps) ms → plain_values ps ≡ true
        → PairsInRange ps
        → MeansDocumentInOrder D ms (map_scalars_of_pairs (scalar_as_read_back f) (map_scalars_of_pairs normal_scalar ps))
    pairs_back f no_pairs ms h p r = rw h means.empty
    pairs_back f (pair k v ps) ms h p r =
        let q = and_parts _ _ p in
        rw h.4 (means.entry k h.0 _ h.1 _ (back f v h.0 h.2 q.0 r.0) (pairs_back f ps h.1 h.3 q.1 r.1))

  pub back_as_read : (f : Form) (v : Value) (t : Data) → WrittenInOrder D f (normal_form v) t → plain v ≡ true
      → NumbersInRange v → MeansInOrder D t (as_read_back f (normal_form v))
  back_as_read f v t h p r = subst (MeansInOrder D t) (as_read_each f (normal_form v)) (back f v t h p r)
