-- What the text of a value's tree is.
use Rattle.std.proofs.Common.{◌≡◌, true, false, Result, Ok, Err, String, Global, string_bytes, sym, ap, ◌∙◌}
use Rattle.std.proofs.Common.{subst}
use Rattle.std.specs.Prelude.{is_ok, IfOk, OnOk}
use Rattle.bson_scalar.specs.declared.form.Doubles.{Doubles}
use Rattle.bson_scalar.specs.declared.form.Form.{Form}
use Rattle.bson_scalar.specs.declared.write_error.WriteError.{WriteError}
use Rattle.bson_scalar.specs.declared.write_error.WriteError.TheVariants.{FiniteDouble, OutOfMemory}
use Rattle.bson_scalar.proofs.Offered.{text_is as as_text}
use Rattle.bson_model.specs.Value.{Value}
use Rattle.bson_model.specs.Normal.{writable_in, NumbersInRange}
use Rattle.bson_model.specs.Writing.{writes_value_in}
use Rattle.bson_model.proofs.Offered.{canon_from_in, has_no_float, writable_from_in, writable_is_in}
use Rattle.bson_model.proofs.OfferedInOrder.{sorted_text}
use Rattle.bson.specs.KeyOrders.{writes_in_key_order}
use Rattle.bson.specs.Texts.{ReturnsWrittenText, IsTextWithDoubles}
use Rattle.bson_model.specs.declared.options.KeyOrder.TheVariants.{Ascending}
use Rattle.bson.proofs.KeyOrders.{ascending_is}

pub text_by_default : (D : Doubles) (f : Form) (v : Value) (r : Result (String Global) WriteError)
    → ReturnsWrittenText r (writes_in_key_order Ascending D f v) → ReturnsWrittenText r (writes_value_in D f v)
text_by_default D f v r g = subst (λ w. ReturnsWrittenText r w) (ascending_is D f v) g

pub text_is : (D : Doubles) (f : Form) (v : Value) (r : Result (String Global) WriteError)
    → ReturnsWrittenText r (writes_value_in D f v)
    → OnOk r (NumbersInRange v) → IfOk r (λ s. IsTextWithDoubles D f v (string_bytes s))
text_is D f v (Ok s) g r =
    sorted_text D f v g.0 (string_bytes s) (g.2 ∙ sym (as_text D f g.0 (has_no_float D f v g.0 g.1)))
    (canon_from_in D f v g.0 g.1) r
text_is D f v (Err e) g r = tt

pub text_writable : (D : Doubles) (f : Form) (v : Value) (r : Result (String Global) WriteError)
    → ReturnsWrittenText r (writes_value_in D f v)
    → OnOk r (writable_in D v ≡ true)
text_writable D f v (Ok s) g = writable_from_in D f v g.0 g.1
text_writable D f v (Err e) g = tt

pub text_finite : (D : Doubles) (f : Form) (v : Value) (r : Result (String Global) WriteError)
    → ReturnsWrittenText r (writes_value_in D f v)
    → r ≡ Err FiniteDouble → writable_in D v ≡ false
text_finite D f v (Ok s) g e = cc
text_finite D f v (Err OutOfMemory) g e = cc
text_finite D f v (Err FiniteDouble) g e = sym (writable_is_in D f v) ∙ ap is_ok g
