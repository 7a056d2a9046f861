-- The ordered text of a value.
use Rattle.std.proofs.Common.{◌≡◌, ℕ, List, false, true, ◌||◌, refl, sym, ap, ◌∙◌, subst}
use Rattle.std.specs.Str.{bytes_eq}
use Rattle.std.proofs.lemmas.Bool.{or_from}
use Rattle.serde_json.specs.Data.{Data, Items, Members}
use Rattle.serde_json.specs.Written.{has_float, items_have_float, members_have_float}
use Rattle.bson_scalar.specs.TreeText.{HasNoFloatIn, tree_text}
use Rattle.bson_scalar.specs.Normal.{normal_scalar, scalar_as_read_back}
use Rattle.bson_scalar.specs.Scalar.{Scalar}
use Rattle.bson_scalar.specs.OrderedScalars.{writes_scalar_in_order}
use Rattle.bson_scalar.specs.declared.form.Doubles.{Doubles}
use Rattle.bson_scalar.specs.declared.form.Doubles.TheVariants.{Special, Finite}
use Rattle.bson_scalar.specs.Forms.{is_relaxed}
use Rattle.bson_scalar.specs.declared.form.Form.{Form}
use Rattle.bson_scalar.specs.declared.form.Form.TheVariants.{Canonical, MongoDbCanonical, MongoDbRelaxed, Relaxed}
use Rattle.bson_scalar.proofs.Offered as scalars
use Rattle.bson_model.specs.Normal.{NumbersInRange, ItemsInRange, PairsInRange, normal_form, as_read_back, plain, map_scalars}
use Rattle.bson_model.specs.Normal.{map_scalars_of_items, map_scalars_of_pairs}
use Rattle.bson_model.specs.Value.{Value, scalar, code_scope, array, document, Values, no_values, value, Pairs}
use Rattle.bson_model.specs.Value.{no_pairs, pair}
use Rattle.bson_model.proofs.Offered.{as_read_each, un_ok}
use Rattle.bson_model.specs.DistinctKeys.{has_pair, AllKeysDistinct, ItemKeysDistinct, PairKeysDistinct}
use Rattle.bson_model.specs.OrderedTrees.{has_key, KeysDiffer, IsTreeInOrder, ItemsAreTreesInOrder, MembersAreTreesInOrder}
use Rattle.bson_model.specs.OrderedMeans.{MeansInOrder}
use Rattle.bson_model.specs.OrderedTexts.{HasEqualTextsInOrder, HasMeaningInOrder, IsOrderedTextOf, ValueRoundTripsInOrder}
use Rattle.bson_model.specs.OrderedWriting.{writes_value_in_order, writes_items_in_order, writes_pairs_in_order}
use Rattle.bson_model.specs.OrderedWritten.{WrittenInOrder, WrittenItemsInOrder, WrittenDocumentInOrder}
use Rattle.bson_model.proofs.KeptTexts.{own_text}
use Rattle.bson_model.proofs.OrderedMeansLaws.{one_in_order}
use Rattle.bson_model.proofs.SortedScalars.{scalar_kept}
use Rattle.bson_model.proofs.OrderedWriteLaws.{back_as_read, default_written, one_written, writable_has_tree, written_to}

module _ (D : Doubles) where
  -- ---- the ordered tree of a value has each key once, and no float

  same_keys : (f : Form) (q : List ℕ) (ps : Pairs) (ms : Members)
      → WrittenDocumentInOrder D f (map_scalars_of_pairs normal_scalar ps) ms → has_key q ms ≡ has_pair q ps
  same_keys f q no_pairs ms h = ap (has_key q) h
  same_keys f q (pair k v ps) ms h = ap (has_key q) h.4 ∙ ap (λ x. bytes_eq q k || x) (same_keys f q ps h.1 h.3)

  mutual
    is_kept : (f : Form) (v : Value) (t : Data) → WrittenInOrder D f (normal_form v) t → NumbersInRange v → AllKeysDistinct v
        → IsTreeInOrder t
    is_kept f (scalar x) t h r a = scalar_kept D f x t h r
    is_kept f (code_scope s ps) t h r a =
        subst IsTreeInOrder (sym h.2) ((refl, (refl, tt)), (tt, (pairs_are_kept f ps h.0 h.1 r a, tt)))
    is_kept f (array vs) t h r a = subst IsTreeInOrder (sym h.2) (items_are_kept f vs h.0 h.1 r a)
    is_kept f (document ps) t h r a = subst IsTreeInOrder (sym h.2) (pairs_are_kept f ps h.0 h.1 r a)

    items_are_kept : (f : Form) (vs : Values) (ds : Items)
        → WrittenItemsInOrder D f (map_scalars_of_items normal_scalar vs) ds → ItemsInRange vs → ItemKeysDistinct vs
        → ItemsAreTreesInOrder ds
    items_are_kept f no_values ds h r a = subst ItemsAreTreesInOrder (sym h) tt
    items_are_kept f (value v vs) ds h r a =
        subst ItemsAreTreesInOrder (sym h.4) (is_kept f v h.0 h.2 r.0 a.0, items_are_kept f vs h.1 h.3 r.1 a.1)

    pairs_are_kept : (f : Form) (ps : Pairs) (ms : Members)
        → WrittenDocumentInOrder D f (map_scalars_of_pairs normal_scalar ps) ms → PairsInRange ps → PairKeysDistinct ps
        → KeysDiffer ms × MembersAreTreesInOrder ms
    pairs_are_kept f no_pairs ms h r a = subst (λ m. KeysDiffer m × MembersAreTreesInOrder m) (sym h) (tt, tt)
    pairs_are_kept f (pair k v ps) ms h r a =
        let is = pairs_are_kept f ps h.1 h.3 r.1 a.2 in
        subst (λ m. KeysDiffer m × MembersAreTreesInOrder m) (sym h.4)
        ((same_keys f k ps h.1 h.3 ∙ a.0, is.0), (is_kept f v h.0 h.2 r.0 a.1, is.1))

module _ (D : Doubles) (f : Form) (other : (D ≡ Finite) × (is_relaxed f ≡ true) → ⊥) where
  mutual
    no_float : (v : Value) (t : Data) → WrittenInOrder D f (normal_form v) t → has_float t ≡ false
    no_float (scalar x) t h = scalars.order_no_float D f x t (scalars.order_written_to D f x t h) other
    no_float (code_scope s ps) t h =
        ap has_float h.2 ∙ or_from (members_have_float h.0) false (no_pairs_float ps h.0 h.1) refl
    no_float (array vs) t h = ap has_float h.2 ∙ no_items_float vs h.0 h.1
    no_float (document ps) t h = ap has_float h.2 ∙ no_pairs_float ps h.0 h.1

    no_items_float : (vs : Values) (ds : Items)
        → WrittenItemsInOrder D f (map_scalars_of_items normal_scalar vs) ds → items_have_float ds ≡ false
    no_items_float no_values ds h = ap items_have_float h
    no_items_float (value v vs) ds h = ap items_have_float h.4
        ∙ or_from (has_float h.0) (items_have_float h.1) (no_float v h.0 h.2) (no_items_float vs h.1 h.3)

    no_pairs_float : (ps : Pairs) (ms : Members)
        → WrittenDocumentInOrder D f (map_scalars_of_pairs normal_scalar ps) ms → members_have_float ms ≡ false
    no_pairs_float no_pairs ms h = ap members_have_float h
    no_pairs_float (pair k v ps) ms h = ap members_have_float h.4
        ∙ or_from (has_float h.0) (members_have_float h.1) (no_float v h.0 h.2) (no_pairs_float ps h.1 h.3)

pub has_no_float : (D : Doubles) (f : Form) (v : Value) (t : Data) → WrittenInOrder D f (normal_form v) t → HasNoFloatIn D f t
has_no_float Special f v t h = no_float Special f (λ e. let never = e.0 in cc) v t h
has_no_float Finite Canonical v t h = no_float Finite Canonical (λ e. let never = e.1 in cc) v t h
has_no_float Finite Relaxed v t h = tt
has_no_float Finite MongoDbCanonical v t h = no_float Finite MongoDbCanonical (λ e. let never = e.1 in cc) v t h
has_no_float Finite MongoDbRelaxed v t h = tt

module _ (D : Doubles) where
  -- ---- the normal form, settled, has the same ordered tree

  mutual
    -- what keeps the tree of each scalar keeps the tree
    each_written : (f : Form) (g : Scalar → Scalar)
        → ((x : Scalar) → writes_scalar_in_order D f (g x) ≡ writes_scalar_in_order D f x)
        → (v : Value) → writes_value_in_order D f (map_scalars g v) ≡ writes_value_in_order D f v
    each_written f g k (scalar x) = k x
    each_written f g k (code_scope s ps) = rw (each_pair f g k ps) refl
    each_written f g k (array vs) = rw (each_item f g k vs) refl
    each_written f g k (document ps) = rw (each_pair f g k ps) refl

    each_item : (f : Form) (g : Scalar → Scalar)
        → ((x : Scalar) → writes_scalar_in_order D f (g x) ≡ writes_scalar_in_order D f x)
        → (vs : Values) → writes_items_in_order D f (map_scalars_of_items g vs) ≡ writes_items_in_order D f vs
    each_item f g k no_values = refl
    each_item f g k (value v vs) = rw (each_written f g k v, each_item f g k vs) refl

    each_pair : (f : Form) (g : Scalar → Scalar)
        → ((x : Scalar) → writes_scalar_in_order D f (g x) ≡ writes_scalar_in_order D f x)
        → (ps : Pairs) → writes_pairs_in_order D f (map_scalars_of_pairs g ps) ≡ writes_pairs_in_order D f ps
    each_pair f g k no_pairs = refl
    each_pair f g k (pair l v ps) = rw (each_written f g k v, each_pair f g k ps) refl

  pub as_read_written : (f : Form) (v : Value) → writes_value_in_order D f (as_read_back f (normal_form v)) ≡ writes_value_in_order D f v
  as_read_written f v =
      subst (λ w. writes_value_in_order D f w ≡ writes_value_in_order D f v) (as_read_each f (normal_form v))
      (each_written f (scalar_as_read_back f) (scalars.order_as_read_written D f) (normal_form v)
      ∙ each_written f normal_scalar (scalars.order_nf_written D f) v)

  -- ---- its text

  -- one text only where the normal forms are equal, and there always
  equal_texts : (f : Form) (v : Value) (t : Data) (w : Value) (u : Data) → WrittenInOrder D f (normal_form v) t
      → plain v ≡ true → NumbersInRange v → AllKeysDistinct v → HasEqualTextsInOrder D f v t w u
  equal_texts f v t w u h p r a q s b g =
      let kept_t = is_kept D f v t h r a in
      let kept_u = is_kept D f w u g s b in (
        λ e. let one = (own_text D f t (has_no_float D f v t h) kept_t).one u (has_no_float D f w u g) kept_u e in
            one_in_order D t _ _ kept_t (back_as_read D f v t h p r)
            (subst (λ d. MeansInOrder D d (as_read_back f (normal_form w))) (sym one) (back_as_read D f w u g q s)),
        λ e. ap (tree_text D f) (un_ok _ _ (sym (written_to D f w u g) ∙ sym (as_read_written f w)
            ∙ ap (writes_value_in_order D f) (sym e) ∙ as_read_written f v ∙ written_to D f v t h)),
      )

  pub ordered_text : (f : Form) (v : Value) (t : Data) → WrittenInOrder D f (normal_form v) t → plain v ≡ true
      → NumbersInRange v → AllKeysDistinct v → IsOrderedTextOf D f v t
  ordered_text f v t h p r a = record {
    written = h;
    one = λ u g. one_written D f v t u h g;
    means = back_as_read D f v t h p r;
    own_text = own_text D f t (has_no_float D f v t h) (is_kept D f v t h r a);
    by_default = default_written D f v t h r;
    equal_texts = λ w u. equal_texts f v t w u h p r a;
  }

  -- ---- what is read

  pub comes_back : (v : Value) (text : List ℕ) → HasMeaningInOrder D text v → ValueRoundTripsInOrder D v
  comes_back v text m f =
      let it = writable_has_tree D f v m.read_form.1 in
      (it.0, ordered_text f v it.0 it.1 m.read_form.0 m.within_type_range m.distinct)
