-- What the trees of scalars are.
use Rattle.std.proofs.Common.{refl}
use Rattle.serde_json.specs.Data.{Data}
use Rattle.bson_scalar.specs.Means.{MeansScalarIn}
use Rattle.bson_scalar.specs.Normal.{normal_scalar, scalar_as_read_back, ScalarInRange}
use Rattle.bson_scalar.specs.Scalar.{Scalar}
use Rattle.bson_scalar.specs.Written.{WrittenScalarIn}
use Rattle.bson_scalar.specs.declared.form.Doubles.{Doubles}
use Rattle.bson_scalar.specs.declared.form.Form.{Form}
use Rattle.bson_scalar.proofs.Offered as scalars
use Rattle.bson_model.specs.Means.{MeansIn}
use Rattle.bson_model.specs.Means as by_default
use Rattle.bson_model.specs.Texts.{IsTree}
use Rattle.bson_model.specs.Value.{scalar}
use Rattle.bson_model.proofs.Offered.{has_text_in, in_range_in}

module _ (D : Doubles) where
  pub within_type_range : (t : Data) (x : Scalar) → MeansScalarIn D t x → IsTree t → ScalarInRange x
  within_type_range t x m is = let means : MeansIn D t (scalar x) = by_default.scalar t x m in in_range_in D means is

  pub is_tree : (f : Form) (x : Scalar) (t : Data) → WrittenScalarIn D f (normal_scalar x) t → ScalarInRange x
      → IsTree t
  is_tree f x t h r = (has_text_in D f (scalar x) t (scalars.written_to D f x t h) refl r).is_tree

  -- the normal form, narrowed in the relaxed form
  pub reads_back : (f : Form) (x : Scalar) (t : Data) → WrittenScalarIn D f (normal_scalar x) t → ScalarInRange x
      → MeansScalarIn D t (scalar_as_read_back f (normal_scalar x))
  reads_back f x t h r = scalars.scalar_from D t _ (scalars.back D f x t (scalars.written_to D f x t h) r)
