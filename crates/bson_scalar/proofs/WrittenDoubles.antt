-- The two trees that a double has: its text in a wrapper, and its JSON number.
use Rattle.std.proofs.Common.{◌≡◌, ◌⊎◌, ◌<◌, ◌^◌, ℕ, List, Bool, true, false, cond, Option, Some, None, Ok, inl, inr}
use Rattle.std.proofs.Common.{refl, sym, ap, ◌∙◌, from_bits}
use Rattle.std.specs.Prelude.{is_some, is_ok, ◌||◌, Result}
use Rattle.std.specs.Float.{binary64}
use lib.Ieee.{fits}
use lib.Ieee.Bits.{is_true, of_bits-fits}
use Rattle.serde_json.specs.Data.{Data, float}
use Rattle.bson_double.specs.FiniteDoubles.{is_finite}
use Rattle.bson_double.proofs.Offered.{bits_of_finite}
use Rattle.bson_scalar.specs.Doubles.{double_text, double_tree, normal_double, is_nan, is_minus_nan, is_special}
use Rattle.bson_scalar.specs.Doubles.{is_writable, double_text_in}
use Rattle.bson_scalar.specs.Reading.{number_read_in}
use Rattle.bson_scalar.specs.Scalar.{double}
use Rattle.bson_scalar.specs.Written.{WriteFault, number_tree, special_double_tree, double_writes_in}
use Rattle.bson_scalar.specs.Written.{WrittenDoubleIn}
use Rattle.bson_scalar.specs.declared.form.Doubles.{Doubles}
use Rattle.bson_scalar.specs.declared.form.Doubles.TheVariants.{Special, Finite}
use Rattle.bson_scalar.specs.Forms.{is_relaxed}
use Rattle.bson_scalar.specs.declared.form.Form.{Form}
use Rattle.bson_scalar.specs.declared.form.Form.TheVariants.{Canonical, MongoDbCanonical, MongoDbRelaxed, Relaxed}
use Rattle.bson_scalar.proofs.DoubleLaws.{double_text-form, special_is}
use Rattle.bson_scalar.proofs.DoubleModes.{text_is, text_to, text_form, has_text}
use Rattle.bson_scalar.proofs.FiniteDoubles.{finite_normal}

-- the text in a wrapper, or the number
abbrev pub IsDoubleTree : Doubles → Form → ℕ → Data → Type 0
IsDoubleTree m f p t =
    ((s : List ℕ) × (double_text_in m p ≡ Some s) × (t ≡ double_tree s))
    ⊎ ((m ≡ Finite) × (is_relaxed f ≡ true) × (is_finite p ≡ true) × (t ≡ number_tree p))

pub un_ok : {A : Type 0} (x y : A) → ◌≡◌ {A = Result A WriteFault} (Ok x) (Ok y) → y ≡ x
un_ok x y h = cc

wrapped_from : (o : Option (List ℕ)) (t : Data) → special_double_tree o ≡ Ok t
    → (s : List ℕ) × (o ≡ Some s) × (t ≡ double_tree s)
wrapped_from (Some s) t h = (s, refl, un_ok _ _ h)
wrapped_from None t h = cc

wrapped_to : (o : Option (List ℕ)) (s : List ℕ) (t : Data) → o ≡ Some s → t ≡ double_tree s → special_double_tree o ≡ Ok t
wrapped_to o s t is same = ap special_double_tree is ∙ ap Ok (sym same)

-- a text of the six is the text in each mode
special_in : (p : ℕ) (s : List ℕ) → double_text p ≡ Some s → double_text_in Finite p ≡ Some s
special_in p s h = rw h refl

relaxed_from : (b : Bool) (p : ℕ) (t : Data) → is_finite p ≡ b
    → cond b (Ok (number_tree p)) (special_double_tree (double_text p)) ≡ Ok t → IsDoubleTree Finite Relaxed p t
relaxed_from true p t is h = inr (refl, refl, is, un_ok _ _ h)
relaxed_from false p t is h =
    let w = wrapped_from (double_text p) t h in inl (w.0, special_in p w.0 w.1, w.2)

pub double_tree_of : (m : Doubles) (f : Form) (p : ℕ) (t : Data) → double_writes_in m f p ≡ Ok t → IsDoubleTree m f p t
double_tree_of Special f p t h = inl (wrapped_from (double_text p) t h)
double_tree_of Finite Canonical p t h = inl (wrapped_from (double_text_in Finite p) t h)
double_tree_of Finite MongoDbCanonical p t h = inl (wrapped_from (double_text_in Finite p) t h)
double_tree_of Finite Relaxed p t h = relaxed_from (is_finite p) p t refl h
double_tree_of Finite MongoDbRelaxed p t h = relaxed_from (is_finite p) p t refl h

-- ---- the function and the relation

relation_at : (b : Bool) (p : ℕ) (t : Data) → is_finite p ≡ b
    → cond b (Ok (number_tree p)) (special_double_tree (double_text p)) ≡ Ok t → WrittenDoubleIn Finite Relaxed p t
relation_at true p t is h = inl (is, un_ok _ _ h)
relation_at false p t is h = inr (is, wrapped_from (double_text p) t h)

pub double_from : (m : Doubles) (f : Form) (p : ℕ) (t : Data) → double_writes_in m f p ≡ Ok t → WrittenDoubleIn m f p t
double_from Special f p t h = wrapped_from (double_text p) t h
double_from Finite Canonical p t h =
    let w = wrapped_from (double_text_in Finite p) t h in (w.0, text_is Finite p w.0 w.1, w.2)
double_from Finite MongoDbCanonical p t h =
    let w = wrapped_from (double_text_in Finite p) t h in (w.0, text_is Finite p w.0 w.1, w.2)
double_from Finite Relaxed p t h = relation_at (is_finite p) p t refl h
double_from Finite MongoDbRelaxed p t h = relation_at (is_finite p) p t refl h

pub double_to : (m : Doubles) (f : Form) (p : ℕ) (t : Data) → WrittenDoubleIn m f p t → double_writes_in m f p ≡ Ok t
double_to Special f p t h = wrapped_to (double_text p) h.0 t h.1 h.2
double_to Finite Canonical p t h = wrapped_to (double_text_in Finite p) h.0 t (text_to Finite p h.0 h.1) h.2
double_to Finite MongoDbCanonical p t h = wrapped_to (double_text_in Finite p) h.0 t (text_to Finite p h.0 h.1) h.2
double_to Finite Relaxed p t (inl h) = rw h.0 (ap Ok (sym h.1))
double_to Finite MongoDbRelaxed p t (inl h) = rw h.0 (ap Ok (sym h.1))
double_to Finite Relaxed p t (inr h) = rw h.0 (let w = h.1 in wrapped_to (double_text p) w.0 t w.1 w.2)
double_to Finite MongoDbRelaxed p t (inr h) = rw h.0 (let w = h.1 in wrapped_to (double_text p) w.0 t w.1 w.2)

-- ---- a double is written as its normal form is

never_finite_at : (e f : Bool) (p : ℕ) → is_finite p ≡ false
    → is_finite (cond e 0x7FF8000000000000 (cond f 0xFFF8000000000000 p)) ≡ false
never_finite_at true f p h = refl
never_finite_at false true p h = refl
never_finite_at false false p h = h

normal_at : (b : Bool) (p : ℕ) → is_finite p ≡ b
    → double_writes_in Finite Relaxed (normal_double p) ≡ double_writes_in Finite Relaxed p
normal_at true p h = ap (double_writes_in Finite Relaxed) (finite_normal p h)
normal_at false p h =
    rw (never_finite_at (is_nan p) (is_minus_nan p) p h, h) (ap special_double_tree (double_text-form p))

pub double_normal : (m : Doubles) (f : Form) (p : ℕ)
    → double_writes_in m f (normal_double p) ≡ double_writes_in m f p
double_normal Special f p = ap special_double_tree (double_text-form p)
double_normal Finite Canonical p = ap special_double_tree (text_form Finite p)
double_normal Finite MongoDbCanonical p = ap special_double_tree (text_form Finite p)
double_normal Finite Relaxed p = normal_at (is_finite p) p refl
double_normal Finite MongoDbRelaxed p = normal_at (is_finite p) p refl

-- ---- which doubles are written

wrapped_ok : (o : Option (List ℕ)) → is_ok (special_double_tree o) ≡ is_some o
wrapped_ok (Some s) = refl
wrapped_ok None = refl

or_right : (a : Bool) → (a || true) ≡ true
or_right true = refl
or_right false = refl

or_none : (a : Bool) → (a || false) ≡ a
or_none true = refl
or_none false = refl

relaxed_ok : (b : Bool) (p : ℕ) → is_finite p ≡ b
    → is_ok (cond b (Ok (number_tree p)) (special_double_tree (double_text p))) ≡ is_writable Finite p
relaxed_ok true p is = rw is (sym (or_right (is_special p)))
relaxed_ok false p is = wrapped_ok (double_text p) ∙ special_is p ∙ rw is (sym (or_none (is_special p)))

pub double_ok : (m : Doubles) (f : Form) (p : ℕ) → is_ok (double_writes_in m f p) ≡ is_writable m p
double_ok Special f p = wrapped_ok (double_text p) ∙ special_is p
double_ok Finite Canonical p = wrapped_ok (double_text_in Finite p) ∙ has_text Finite p
double_ok Finite MongoDbCanonical p = wrapped_ok (double_text_in Finite p) ∙ has_text Finite p
double_ok Finite Relaxed p = relaxed_ok (is_finite p) p refl
double_ok Finite MongoDbRelaxed p = relaxed_ok (is_finite p) p refl

-- ---- a number is read as the double

pub number_back : (p : ℕ) → p < 2 ^ 64 → is_finite p ≡ true
    → number_read_in Finite (float (from_bits binary64 p)) ≡ Ok (double (normal_double p))
number_back p small finite =
    rw (is_true (fits binary64 (from_bits binary64 p)) (of_bits-fits binary64 p))
    (rw (bits_of_finite p small finite) (ap (λ q. Ok (double q)) (sym (finite_normal p finite))))
