-- What the mode `Finite` adds: each value is writable, and each tree of the mode `Special` keeps its meaning.
use Rattle.std.proofs.Common.{◌≡◌, Bool, true, ◌&&◌, refl, inl}
use Rattle.serde_json.specs.Data.{Data, Items, Members}
use Rattle.bson_scalar.specs.Scalar.{Scalar, double}
use Rattle.bson_scalar.specs.Written.{WrittenScalar, WrittenScalarIn}
use Rattle.bson_scalar.specs.declared.form.Doubles.{Doubles}
use Rattle.bson_scalar.specs.declared.form.Doubles.TheVariants.{Finite}
use Rattle.bson_scalar.specs.declared.form.Form.{Form}
use Rattle.bson_scalar.specs.declared.form.Form.TheVariants.{Canonical}
use Rattle.bson_scalar.proofs.Offered as scalars
use Rattle.bson_model.specs.Value.{Value, code_scope, Values, no_values, value, Pairs, no_pairs, pair}
use Rattle.bson_model.specs.Value as model
use Rattle.bson_model.specs.Laws.{IsTreeOfIn}
use Rattle.bson_model.specs.Means.{Means, MeansIn, scalar, code_with_scope, array, document, MeansItems, MeansItemsIn}
use Rattle.bson_model.specs.Means.{nothing, then, MeansDocument, MeansDocumentIn, empty, entry}
use Rattle.bson_model.specs.Normal.{normal_form, writable_in, writable_items_in, writable_pairs_in, NumbersInRange}
use Rattle.bson_model.specs.Normal.{ItemsInRange, PairsInRange}
use Rattle.bson_model.specs.Written.{Written, WrittenIn, WrittenItems, WrittenItemsIn, WrittenDocument}
use Rattle.bson_model.specs.Written.{WrittenDocumentIn}
use Rattle.bson_model.proofs.ReadBack.{tree_is}
use Rattle.bson_model.proofs.WriteLaws.{canon_to}

both_true : (a b : Bool) → a ≡ true → b ≡ true → (a && b) ≡ true
both_true a b h g = rw (h, g) refl

mutual
  pub all_writable : (v : Value) → NumbersInRange v → writable_in Finite v ≡ true
  all_writable (model.scalar x) r = scalars.all_writable_is x r
  all_writable (code_scope s ps) r = pairs_writable ps r
  all_writable (model.array vs) r = items_writable vs r
  all_writable (model.document ps) r = pairs_writable ps r

  items_writable : (vs : Values) → ItemsInRange vs → writable_items_in Finite vs ≡ true
  items_writable no_values r = refl
  items_writable (value v vs) r = both_true _ _ (all_writable v r.0) (items_writable vs r.1)

  pairs_writable : (ps : Pairs) → PairsInRange ps → writable_pairs_in Finite ps ≡ true
  pairs_writable no_pairs r = refl
  pairs_writable (pair k v ps) r = both_true _ _ (all_writable v r.0) (pairs_writable ps r.1)

mutual
  pub wider : {t : Data} {v : Value} → Means t v → MeansIn Finite t v
  wider (scalar d x m) = scalar d x (inl m)
  wider (code_with_scope s ms ps m) = code_with_scope s ms ps (wider_document m)
  wider (array ds vs m) = array ds vs (wider_items m)
  wider (document ms ps none m) = document ms ps none (wider_document m)

  wider_items : {ds : Items} {vs : Values} → MeansItems ds vs → MeansItemsIn Finite ds vs
  wider_items nothing = nothing
  wider_items (then d v ds vs m n) = then d v ds vs (wider m) (wider_items n)

  wider_document : {ms : Members} {ps : Pairs} → MeansDocument ms ps → MeansDocumentIn Finite ms ps
  wider_document empty = empty
  wider_document (entry k d v ms ps m n) = entry k d v ms ps (wider m) (wider_document n)

scalar_kept : (x : Scalar) (t : Data) → WrittenScalar Canonical x t → WrittenScalarIn Finite Canonical x t
scalar_kept (double p) t h = (h.0, inl h.1, h.2)
scalar_kept x t h = h

mutual
  pub kept : (v : Value) (t : Data) → Written Canonical v t → WrittenIn Finite Canonical v t
  kept (model.scalar x) t h = scalar_kept x t h
  kept (code_scope s ps) t h = (h.0, kept_pairs ps h.0 h.1, h.2)
  kept (model.array vs) t h = (h.0, kept_items vs h.0 h.1, h.2)
  kept (model.document ps) t h = (h.0, kept_pairs ps h.0 h.1, h.2)

  kept_items : (vs : Values) (ds : Items) → WrittenItems Canonical vs ds → WrittenItemsIn Finite Canonical vs ds
  kept_items no_values ds h = h
  kept_items (value v vs) ds h = (h.0, h.1, kept v h.0 h.2, kept_items vs h.1 h.3, h.4)

  kept_pairs : (ps : Pairs) (ms : Members) → WrittenDocument Canonical ps ms
      → WrittenDocumentIn Finite Canonical ps ms
  kept_pairs no_pairs ms h = h
  kept_pairs (pair k v ps) ms h = (h.0, h.1, kept v h.0 h.2, kept_pairs ps h.1 h.3, h.4)

pub grammar_tree : (D : Doubles) (f : Form) (v : Value) (t : Data) → WrittenIn D f (normal_form v) t → NumbersInRange v
    → IsTreeOfIn D f v t
grammar_tree D f v t c r = tree_is D f v t (canon_to D f v t c) r
