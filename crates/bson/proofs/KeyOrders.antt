-- What is written in each order of keys is what the book's function of that order says.
use Rattle.std.proofs.Common.{◌≡◌, ℕ, List, Bool, not, true, false, Ok, refl, ap}
use Rattle.serde_json.specs.Data.{array, object, string}
use Rattle.bson_types.specs.declared.spec.BinarySubtype.{BinarySubtype}
use Rattle.bson_scalar.specs.Binaries.{binary_tree}
use Rattle.bson_scalar.specs.Forms.{is_mongodb}
use Rattle.bson_scalar.specs.Scalar.{Scalar, binary, db_pointer, regex, text, timestamp}
use Rattle.bson_scalar.specs.Written.{writes_scalar_in, ◌>>=◌}
use Rattle.bson_scalar.proofs.Offered.{specified_order}
use Rattle.bson_scalar.specs.declared.form.Doubles.{Doubles}
use Rattle.bson_scalar.specs.declared.form.Form.{Form}
use Rattle.bson_model.specs.Value.{Value, scalar, code_scope, Values, no_values, value, Pairs, no_pairs, pair}
use Rattle.bson_model.specs.Value as model
use Rattle.bson_model.specs.Writing.{writes_value_in, writes_items_in, writes_pairs_in, with_scope}
use Rattle.bson_model.specs.OrderedWriting.{writes_value_in_order, writes_items_in_order, writes_pairs_in_order}
use Rattle.bson.specs.KeyOrders.{writes_in_key_order, writes_items_in_key_order, writes_pairs_in_key_order, writes_scalar_in_key_order}
use Rattle.bson.specs.OutputCapacity.{is_allocation_free}
use Rattle.bson_model.specs.declared.options.KeyOrder.{KeyOrder}
use Rattle.bson_model.specs.declared.options.KeyOrder.TheVariants.{Ascending, AsGiven}

not_true : (b : Bool) → not b ≡ true → b ≡ false
not_true true h = cc
not_true false h = refl

-- in an allocation-free scalar the orders do not differ
pub free_alike : (k : KeyOrder) (D : Doubles) (f : Form) (x : Scalar) → is_allocation_free f x ≡ true
    → writes_scalar_in_key_order k D f x ≡ writes_scalar_in D f x
free_alike Ascending D f x free = refl
free_alike AsGiven D f (regex p o) free = cc
free_alike AsGiven D f (timestamp s i) free = specified_order D f (timestamp s i) (not_true (is_mongodb f) free)
free_alike AsGiven D f (db_pointer s id) free = specified_order D f (db_pointer s id) (not_true (is_mongodb f) free)
free_alike AsGiven D f x free = refl

pub text_alike : (k : KeyOrder) (D : Doubles) (f : Form) (s : List ℕ)
    → writes_in_key_order k D f (scalar (text s)) ≡ Ok (string s)
text_alike Ascending D f s = refl
text_alike AsGiven D f s = refl

pub binary_alike : (k : KeyOrder) (D : Doubles) (f : Form) (b : BinarySubtype) (bytes : List ℕ)
    → writes_in_key_order k D f (scalar (binary b bytes)) ≡ Ok (binary_tree b bytes)
binary_alike Ascending D f b bytes = refl
binary_alike AsGiven D f b bytes = refl

module _ (D : Doubles) (f : Form) where
  mutual
    pub ascending_is : (v : Value) → writes_in_key_order Ascending D f v ≡ writes_value_in D f v
    ascending_is (scalar x) = refl
    ascending_is (code_scope s ps) = ap (λ r. r >>= λ ms. Ok (with_scope s ms)) (ascending_pairs ps)
    ascending_is (model.array vs) = ap (λ r. r >>= λ ds. Ok (array ds)) (ascending_items vs)
    ascending_is (model.document ps) = ap (λ r. r >>= λ ms. Ok (object ms)) (ascending_pairs ps)

    ascending_items : (vs : Values) → writes_items_in_key_order Ascending D f vs ≡ writes_items_in D f vs
    ascending_items no_values = refl
    ascending_items (value v vs) = rw (ascending_is v, ascending_items vs) refl

    ascending_pairs : (ps : Pairs) → writes_pairs_in_key_order Ascending D f ps ≡ writes_pairs_in D f ps
    ascending_pairs no_pairs = refl
    ascending_pairs (pair k v ps) = rw (ascending_is v, ascending_pairs ps) refl

  mutual
    pub as_given_is : (v : Value) → writes_in_key_order AsGiven D f v ≡ writes_value_in_order D f v
    as_given_is (scalar x) = refl
    as_given_is (code_scope s ps) = ap (λ r. r >>= λ ms. Ok (with_scope s ms)) (as_given_pairs ps)
    as_given_is (model.array vs) = ap (λ r. r >>= λ ds. Ok (array ds)) (as_given_items vs)
    as_given_is (model.document ps) = ap (λ r. r >>= λ ms. Ok (object ms)) (as_given_pairs ps)

    as_given_items : (vs : Values) → writes_items_in_key_order AsGiven D f vs ≡ writes_items_in_order D f vs
    as_given_items no_values = refl
    as_given_items (value v vs) = rw (as_given_is v, as_given_items vs) refl

    as_given_pairs : (ps : Pairs) → writes_pairs_in_key_order AsGiven D f ps ≡ writes_pairs_in_order D f ps
    as_given_pairs no_pairs = refl
    as_given_pairs (pair k v ps) = rw (as_given_is v, as_given_pairs ps) refl
