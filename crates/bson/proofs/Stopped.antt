-- Where finite doubles are written, nothing but running out of memory stops a writer.
use Rattle.std.proofs.Common.{◌≡◌, true, Result, Ok, Err, List, sym, ap, ◌∙◌}
use Rattle.std.specs.Prelude.{IfErr, is_ok}
use Rattle.json.specs.Token.{Token}
use Rattle.serde_json.specs.Data.{Data}
use Rattle.bson_scalar.specs.Normal.{writable_scalar_in}
use Rattle.bson_scalar.specs.Scalar.{Scalar}
use Rattle.bson_scalar.specs.Tokens.{AppendsTreeTokens}
use Rattle.bson_scalar.specs.Written.{IsWriteFailureOf, IsWriteResult, writes_scalar_in}
use Rattle.bson_scalar.specs.declared.form.Doubles.{Doubles}
use Rattle.bson_scalar.specs.declared.form.Doubles.TheVariants.{Special, Finite}
use Rattle.bson_scalar.specs.declared.form.Form.{Form}
use Rattle.bson_scalar.specs.declared.write_error.WriteError.{WriteError}
use Rattle.bson_scalar.specs.declared.write_error.WriteError.TheVariants.{FiniteDouble, OutOfMemory}
use Rattle.bson_scalar.proofs.Offered.{order_writable_is, writable_is}
use Rattle.bson_model.specs.declared.options.KeyOrder.{KeyOrder}
use Rattle.bson_model.specs.declared.options.KeyOrder.TheVariants.{Ascending, AsGiven}
use Rattle.bson.specs.KeyOrders.{writes_scalar_in_key_order}
use Rattle.bson.specs.Texts.{IsWriteErrorIn}

writable_by : (k : KeyOrder) (D : Doubles) (f : Form) (x : Scalar)
    → is_ok (writes_scalar_in_key_order k D f x) ≡ writable_scalar_in D x
writable_by Ascending D f x = writable_is D f x
writable_by AsGiven D f x = order_writable_is D f x

-- a scalar that has a text where finite doubles are written stops no writer there
stopped : (k : KeyOrder) (D : Doubles) (f : Form) (x : Scalar) (e : WriteError) → writable_scalar_in Finite x ≡ true
    → IsWriteFailureOf e (writes_scalar_in_key_order k D f x) → IsWriteErrorIn D e
stopped k D f x OutOfMemory some h = tt
stopped k Special f x FiniteDouble some h = tt
stopped k Finite f x FiniteDouble some h =
    let is = sym (ap is_ok h) ∙ writable_by k Finite f x ∙ some in cc

pub written_stopped : (D : Doubles) (f : Form) (x : Scalar) {X : Type 0} (see : X → Data) (r : Result X WriteError)
    → writable_scalar_in Finite x ≡ true → IsWriteResult see r (writes_scalar_in D f x) → IfErr r (IsWriteErrorIn D)
written_stopped D f x see (Ok t) some h = tt
written_stopped D f x see (Err e) some h = stopped Ascending D f x e some h

pub put_stopped : (k : KeyOrder) (D : Doubles) (f : Form) (x : Scalar) (old new : List Token)
    (r : Result (Unit {0}) WriteError) → writable_scalar_in Finite x ≡ true
    → AppendsTreeTokens r (writes_scalar_in_key_order k D f x) old new → IfErr r (IsWriteErrorIn D)
put_stopped k D f x old new (Ok done) some h = tt
put_stopped k D f x old new (Err e) some h = stopped k D f x e some h
