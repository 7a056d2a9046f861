-- No float is written, so that a tree's compact text is known.
use Rattle.std.proofs.Common.{◌≡◌, ℕ, ℤ, List, pos, negsuc, Bool, true, false, Ok, inl, inr, refl}
use Rattle.serde_json.specs.Data.{Data}
use Rattle.serde_json.specs.Data as tree
use Rattle.serde_json.specs.Find.{of_integer}
use Rattle.serde_json.specs.Written.{has_float}
use Rattle.bson_scalar.specs.Dates.{is_in_years_1970_to_9999, relaxed_date_tree}
use Rattle.bson_scalar.specs.Forms.{is_relaxed}
use Rattle.bson_scalar.specs.Scalar.{Scalar, date, double, int32, int64}
use Rattle.bson_scalar.specs.Written.{date_form, int32_form, int64_form, writes_scalar_in}
use Rattle.bson_scalar.specs.declared.form.Doubles.{Doubles}
use Rattle.bson_scalar.specs.declared.form.Doubles.TheVariants.{Finite}
use Rattle.bson_scalar.specs.declared.form.Form.{Form}
use Rattle.bson_scalar.specs.declared.form.Form.TheVariants.{Canonical, MongoDbCanonical, MongoDbRelaxed, Relaxed}
use Rattle.bson_scalar.proofs.WrittenDoubles.{double_tree_of, un_ok}

whole_none : (z : ℤ) → has_float (tree.number (of_integer z)) ≡ false
whole_none (pos n) = refl
whole_none (negsuc n) = refl

int32_none : (f : Form) (z : ℤ) → has_float (int32_form f z) ≡ false
int32_none Canonical z = refl
int32_none MongoDbCanonical z = refl
int32_none Relaxed z = whole_none z
int32_none MongoDbRelaxed z = whole_none z

int64_none : (f : Form) (z : ℤ) → has_float (int64_form f z) ≡ false
int64_none Canonical z = refl
int64_none MongoDbCanonical z = refl
int64_none Relaxed z = whole_none z
int64_none MongoDbRelaxed z = whole_none z

recent_none : (s : List ℕ) (b : Bool) (z : ℤ) → is_in_years_1970_to_9999 z ≡ b → has_float (relaxed_date_tree s z) ≡ false
recent_none s true z e = rw e refl
recent_none s false z e = rw e refl

date_none : (f : Form) (z : ℤ) → has_float (date_form f z) ≡ false
date_none Canonical z = refl
date_none MongoDbCanonical z = refl
date_none Relaxed z = recent_none _ _ z refl
date_none MongoDbRelaxed z = recent_none _ _ z refl

-- (but of a finite double in the relaxed form of the mode `Finite`)
pub scalar_no_float : (m : Doubles) (f : Form) (x : Scalar) (t : Data) → writes_scalar_in m f x ≡ Ok t
    → ((m ≡ Finite) × (is_relaxed f ≡ true) → ⊥) → has_float t ≡ false
scalar_no_float m f (double p) t h other =
    elim (double_tree_of m f p t h) [
      | inl (s, has, is) ↦ rw is refl
      | inr (finite_doubles, relaxed, finite, is) ↦ absurd (other (finite_doubles, relaxed))
    ]
scalar_no_float m f (int32 z) t h other = rw (un_ok _ _ h) (int32_none f z)
scalar_no_float m f (int64 z) t h other = rw (un_ok _ _ h) (int64_none f z)
scalar_no_float m f (date z) t h other = rw (un_ok _ _ h) (date_none f z)
scalar_no_float m f x t h other = rw (un_ok _ _ h) refl
