-- The tree of a scalar whose keys have an order: the function and the relation, and what it has of the tree without one.
use Rattle.std.proofs.Common.{◌≡◌, ◌∙◌, ℤ, Bool, true, false, cond, Ok, refl, sym, ap}
use Rattle.std.specs.Prelude.{is_ok}
use Rattle.serde_json.specs.Data.{Data}
use Rattle.serde_json.specs.Written.{has_float}
use Rattle.bson_types.proofs.Offered.{sorted_regex_options-again}
use Rattle.bson_scalar.specs.Forms.{is_mongodb, is_relaxed}
use Rattle.bson_scalar.specs.Ints.{fits_bits}
use Rattle.bson_scalar.specs.Normal.{normal_scalar, scalar_as_read_back, writable_scalar_in}
use Rattle.bson_scalar.specs.OrderedScalars.{WrittenScalarInOrder, pair_object, regex_in_order, writes_scalar_in_order}
use Rattle.bson_scalar.specs.Scalar.{Scalar, db_pointer, int32, int64, regex, timestamp}
use Rattle.bson_scalar.specs.Written.{writes_scalar_in}
use Rattle.bson_scalar.specs.declared.form.Doubles.{Doubles}
use Rattle.bson_scalar.specs.declared.form.Doubles.TheVariants.{Finite}
use Rattle.bson_scalar.specs.declared.form.Form.{Form}
use Rattle.bson_scalar.proofs.NoFloats.{scalar_no_float}
use Rattle.bson_scalar.proofs.ScalarLaws.{as_read_written, nf_written, writable_is, written_from, written_to}
use Rattle.bson_scalar.proofs.WrittenDoubles.{un_ok}

pub order_written_from : (m : Doubles) (f : Form) (x : Scalar) (t : Data) → writes_scalar_in_order m f x ≡ Ok t
    → WrittenScalarInOrder m f (normal_scalar x) t
order_written_from m f (regex p o) t h = un_ok _ _ h
order_written_from m f (timestamp s i) t h = un_ok _ _ h
order_written_from m f (db_pointer s id) t h = un_ok _ _ h
order_written_from m f x t h = written_from m f x t h

pub order_written_to : (m : Doubles) (f : Form) (x : Scalar) (t : Data) → WrittenScalarInOrder m f (normal_scalar x) t
    → writes_scalar_in_order m f x ≡ Ok t
order_written_to m f (regex p o) t h = ap Ok (sym h)
order_written_to m f (timestamp s i) t h = ap Ok (sym h)
order_written_to m f (db_pointer s id) t h = ap Ok (sym h)
order_written_to m f x t h = written_to m f x t h

pub order_writable_is : (m : Doubles) (f : Form) (x : Scalar) → is_ok (writes_scalar_in_order m f x) ≡ writable_scalar_in m x
order_writable_is m f (regex p o) = refl
order_writable_is m f (timestamp s i) = refl
order_writable_is m f (db_pointer s id) = refl
order_writable_is m f x = writable_is m f x

-- what is normal, or reads back, has the same tree
pub order_nf_written : (m : Doubles) (f : Form) (x : Scalar)
    → writes_scalar_in_order m f (normal_scalar x) ≡ writes_scalar_in_order m f x
order_nf_written m f (regex p o) = ap (λ s. Ok (regex_in_order f p s)) (sorted_regex_options-again o)
order_nf_written m f (timestamp s i) = refl
order_nf_written m f (db_pointer s id) = refl
order_nf_written m f x = nf_written m f x

int64_order : (m : Doubles) (f : Form) (b c : Bool) (z : ℤ)
    → writes_scalar_in_order m f (cond b (cond c (int32 z) (int64 z)) (int64 z))
    ≡ writes_scalar_in m f (cond b (cond c (int32 z) (int64 z)) (int64 z))
int64_order m f true true z = refl
int64_order m f true false z = refl
int64_order m f false c z = refl

pub order_as_read_written : (m : Doubles) (f : Form) (x : Scalar)
    → writes_scalar_in_order m f (scalar_as_read_back f x) ≡ writes_scalar_in_order m f x
order_as_read_written m f (int64 z) = int64_order m f (is_relaxed f) (fits_bits 31 z) z ∙ as_read_written m f (int64 z)
order_as_read_written m f x = refl

swapped_none : (b : Bool) (k l : _) (t u : Data) → has_float t ≡ false → has_float u ≡ false → has_float (pair_object b k t l u) ≡ false
swapped_none true k l t u p q = rw (p, q) refl
swapped_none false k l t u p q = rw (p, q) refl

pub order_no_float : (m : Doubles) (f : Form) (x : Scalar) (t : Data) → writes_scalar_in_order m f x ≡ Ok t
    → ((m ≡ Finite) × (is_relaxed f ≡ true) → ⊥) → has_float t ≡ false
order_no_float m f (regex p o) t h other = rw (un_ok _ _ h) (rw (swapped_none (is_mongodb f) _ _ _ _ refl refl) refl)
order_no_float m f (timestamp s i) t h other = rw (un_ok _ _ h) (rw (swapped_none (is_mongodb f) _ _ _ _ refl refl) refl)
order_no_float m f (db_pointer s id) t h other = rw (un_ok _ _ h) (rw (swapped_none (is_mongodb f) _ _ _ _ refl refl) refl)
order_no_float m f x t h other = scalar_no_float m f x t h other

-- in the specified layout the keys of each wrapper ascend
pub specified_order : (m : Doubles) (f : Form) (x : Scalar) → is_mongodb f ≡ false
    → writes_scalar_in_order m f x ≡ writes_scalar_in m f x
specified_order m f (regex p o) h = rw h refl
specified_order m f (timestamp s i) h = rw h refl
specified_order m f (db_pointer s id) h = rw h refl
specified_order m f x h = refl
