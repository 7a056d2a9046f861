-- What the mode `Finite` adds: each value is written, and each tree of the mode `Special` keeps its meaning.
use Rattle.std.proofs.Common.{ℕ, List, inl}
use Rattle.serde_json.specs.Data.{Data, Items, Members}
use Rattle.bson_scalar.specs.Scalar.{Scalar, double}
use Rattle.bson_scalar.specs.OrderedScalars.{WrittenScalarInOrder}
use Rattle.bson_scalar.specs.declared.form.Doubles.TheVariants.{Special, Finite}
use Rattle.bson_scalar.specs.declared.form.Form.{Form}
use Rattle.bson_scalar.specs.declared.form.Form.TheVariants.{Canonical}
use Rattle.bson_scalar.proofs.Offered.{in_each}
use Rattle.bson_model.specs.Normal.{NumbersInRange, normal_form}
use Rattle.bson_model.specs.Value.{Value, code_scope, Values, no_values, value, Pairs, no_pairs, pair}
use Rattle.bson_model.specs.Value as model
use Rattle.bson_model.proofs.Offered.{all_writable}
use Rattle.bson_model.specs.OrderedMeans.{MeansInOrder, scalar, code_with_scope, scope_with_code, array, document}
use Rattle.bson_model.specs.OrderedMeans.{MeansItemsInOrder, nothing, then, MeansDocumentInOrder, empty, entry}
use Rattle.bson_model.specs.OrderedTexts.{HasMeaningInOrder}
use Rattle.bson_model.specs.OrderedWritten.{WrittenInOrder, WrittenItemsInOrder, WrittenDocumentInOrder}
use Rattle.bson_model.proofs.TextMeaning.{text_means}
use Rattle.bson_model.proofs.OrderedWriteLaws.{writable_has_tree}

pub always_written : (f : Form) (v : Value) → NumbersInRange v → (t : Data) × WrittenInOrder Finite f (normal_form v) t
always_written f v r = writable_has_tree Finite f v (all_writable v r)

mutual
  pub wider : {t : Data} {v : Value} → MeansInOrder Special t v → MeansInOrder Finite t v
  wider (scalar d x m) = scalar d x (in_each Finite m)
  wider (code_with_scope s ms ps m) = code_with_scope s ms ps (wider_document m)
  wider (scope_with_code s ms ps m) = scope_with_code s ms ps (wider_document m)
  wider (array ds vs m) = array ds vs (wider_items m)
  wider (document ms ps none m) = document ms ps none (wider_document m)

  wider_items : {ds : Items} {vs : Values} → MeansItemsInOrder Special ds vs → MeansItemsInOrder Finite ds vs
  wider_items nothing = nothing
  wider_items (then d v ds vs m n) = then d v ds vs (wider m) (wider_items n)

  wider_document : {ms : Members} {ps : Pairs} → MeansDocumentInOrder Special ms ps → MeansDocumentInOrder Finite ms ps
  wider_document empty = empty
  wider_document (entry k d v ms ps m n) = entry k d v ms ps (wider m) (wider_document n)

pub wider_text : (text : List ℕ) (v : Value) → HasMeaningInOrder Special text v → HasMeaningInOrder Finite text v
wider_text text v m = text_means Finite text m.tree v m.tree_read (wider m.means)

scalar_kept : (x : Scalar) (t : Data) → WrittenScalarInOrder Special Canonical x t → WrittenScalarInOrder Finite Canonical x t
scalar_kept (double p) t h = (h.0, inl h.1, h.2)
scalar_kept x t h = h

mutual
  pub kept : (v : Value) (t : Data) → WrittenInOrder Special Canonical v t → WrittenInOrder Finite Canonical v t
  kept (model.scalar x) t h = scalar_kept x t h
  kept (code_scope s ps) t h = (h.0, kept_pairs ps h.0 h.1, h.2)
  kept (model.array vs) t h = (h.0, kept_items vs h.0 h.1, h.2)
  kept (model.document ps) t h = (h.0, kept_pairs ps h.0 h.1, h.2)

  kept_items : (vs : Values) (ds : Items) → WrittenItemsInOrder Special Canonical vs ds
      → WrittenItemsInOrder Finite Canonical vs ds
  kept_items no_values ds h = h
  kept_items (value v vs) ds h = (h.0, h.1, kept v h.0 h.2, kept_items vs h.1 h.3, h.4)

  kept_pairs : (ps : Pairs) (ms : Members) → WrittenDocumentInOrder Special Canonical ps ms
      → WrittenDocumentInOrder Finite Canonical ps ms
  kept_pairs no_pairs ms h = h
  kept_pairs (pair k v ps) ms h = (h.0, h.1, kept v h.0 h.2, kept_pairs ps h.1 h.3, h.4)
