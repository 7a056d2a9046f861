-- `$numberDouble` in each of the two modes of doubles.
use Rattle.std.proofs.Common.{◌≡◌, ◌<◌, ◌^◌, ℕ, List, Bool, true, false, ◌||◌, cond, Option, Some, None, refl, sym, ap}
use Rattle.std.proofs.Common.{inl, inr, ◌∙◌, subst, nat_eq, ◌/◌, ◌%◌, arith}
use Rattle.std.specs.Prelude.{Ok, codes, is_some}
use Rattle.std.proofs.lemmas.Bool.{lt-ltb, eqb-false}
use Rattle.serde_json.specs.Data.{Data}
use Rattle.serde_json.specs.Data as tree
use Rattle.bson_double.specs.FiniteDoubles.{is_finite, parsed_finite_bits}
use Rattle.bson_double.proofs.Offered.{read_back}
use Rattle.bson_scalar.specs.Doubles.{special_double_pattern, double_bits_of_text, double_text, double_text_in, normal_double}
use Rattle.bson_scalar.specs.Doubles.{is_special, is_writable, or_finite_text, or_parsed_finite_bits, IsDoubleTextIn}
use Rattle.bson_scalar.specs.Means.{MeansScalarIn, MeansScalar, number_double, nearest_to_text}
use Rattle.bson_scalar.specs.Normal.{IsReadScalarIn, IsReadScalar}
use Rattle.bson_scalar.specs.Reading.{double_read_in}
use Rattle.bson_scalar.specs.Scalar.{Scalar, double}
use Rattle.bson_scalar.specs.TreeParts.{one_key_object}
use Rattle.bson_scalar.specs.declared.form.Doubles.{Doubles}
use Rattle.bson_scalar.specs.declared.form.Doubles.TheVariants.{Special, Finite}
use Rattle.bson_scalar.proofs.DoubleLaws.{double_form, double_again, double_text-form, special_is}
use Rattle.bson_scalar.specs.Shortest.{finite_double_text}
use Rattle.bson_scalar.proofs.FiniteDoubles.{finite_normal, finite_text_to, special_text_is, agree}
use Rattle.bson_scalar.proofs.ShortestText.{finite_text-some, finite_text_is}
use Rattle.bson_scalar.proofs.InverseLemmas.{un_ok, text_then, some_then}

-- ---- what is read

-- a production of today's grammar is one of each mode
pub in_each : (m : Doubles) {t : Data} {x : Scalar} → MeansScalar t x → MeansScalarIn m t x
in_each Special h = h
in_each Finite h = inl h

-- the mode `Finite` reads a text as the grammar says
two_ways : (o : Option ℕ) (s : List ℕ) (p : ℕ) → special_double_pattern s ≡ o → or_parsed_finite_bits o s ≡ Some p
    → MeansScalarIn Finite (one_key_object (codes "$numberDouble") (tree.string s)) (double p)
two_ways (Some q) s p is h = inl (number_double s p (is ∙ h))
two_ways None s p is h = inr (nearest_to_text s p h)

pub double_means : (m : Doubles) (s : List ℕ) (p : ℕ) → double_bits_of_text m s ≡ Some p
    → MeansScalarIn m (one_key_object (codes "$numberDouble") (tree.string s)) (double p)
double_means Special s p h = number_double s p h
double_means Finite s p h = two_ways (special_double_pattern s) s p refl h

pub double_from : (m : Doubles) (d : Data) (x : Scalar) → double_read_in m d ≡ Ok x
    → MeansScalarIn m (one_key_object (codes "$numberDouble") d) x
double_from m d x h =
    let t = text_then d _ x h in
    let n = some_then (double_bits_of_text m t.0) _ x t.2 in
    subst (λ e. MeansScalarIn m (one_key_object (codes "$numberDouble") e) x) (sym t.1)
    (subst (λ y. MeansScalarIn m (one_key_object (codes "$numberDouble") (tree.string t.0)) y) (sym (un_ok _ _ n.2))
    (double_means m t.0 n.0 n.1))

pub double_to : (m : Doubles) (s : List ℕ) (p : ℕ) → special_double_pattern s ≡ Some p → double_bits_of_text m s ≡ Some p
double_to Special s p h = h
double_to Finite s p h = rw h refl

finite_at : (o : Option ℕ) (s : List ℕ) (p : ℕ) → special_double_pattern s ≡ o → parsed_finite_bits s ≡ Some p → or_parsed_finite_bits o s ≡ Some p
finite_at (Some q) s p is h = ap Some (agree s q is p h)
finite_at None s p is h = h

pub finite_to : (s : List ℕ) (p : ℕ) → parsed_finite_bits s ≡ Some p → double_bits_of_text Finite s ≡ Some p
finite_to s p h = finite_at (special_double_pattern s) s p refl h

or_true : (a b : Bool) → b ≡ true → (a || b) ≡ true
or_true true b h = refl
or_true false b h = h

true_or : (a b : Bool) → a ≡ true → (a || b) ≡ true
true_or true b h = refl
true_or false b h = cc

-- a finite pattern that is read is writable, and in normal form
pub finite_form : (p : ℕ) → is_finite p ≡ true → IsReadScalarIn Finite (double p)
finite_form p h = (or_true (is_special p) (is_finite p) h, ap double (finite_normal p h))

pub double_form_in : (m : Doubles) (s : List ℕ) (p : ℕ) → special_double_pattern s ≡ Some p → IsReadScalarIn m (double p)
double_form_in Special s p h = double_form s p h
double_form_in Finite s p h =
    let f : IsReadScalar (double p) = double_form s p h in (true_or (is_special p) (is_finite p) f.0, f.1)

-- ---- what is written

-- the function and the relation
text_at : (o : Option (List ℕ)) (p : ℕ) (s : List ℕ) → double_text p ≡ o → or_finite_text o p ≡ Some s
    → IsDoubleTextIn Finite p s
text_at (Some t) p s is h = inl (is ∙ h)
text_at None p s is h = inr (finite_text_is p s h)

pub text_is : (m : Doubles) (p : ℕ) (s : List ℕ) → double_text_in m p ≡ Some s → IsDoubleTextIn m p s
text_is Special p s h = h
text_is Finite p s h = text_at (double_text p) p s refl h

same_text : (p : ℕ) (t s : List ℕ) → finite_double_text p ≡ Some t → finite_double_text p ≡ Some s → Some t ≡ Some s
same_text p t s h g = sym h ∙ g

text_to_at : (o : Option (List ℕ)) (p : ℕ) (s : List ℕ) → double_text p ≡ o → is_finite p ≡ true
    → finite_double_text p ≡ Some s → or_finite_text o p ≡ Some s
text_to_at (Some t) p s is finite h =
    same_text p t s (finite_text_to p t finite (special_text_is p t finite is)) h
text_to_at None p s is finite h = h

pub text_to : (m : Doubles) (p : ℕ) (s : List ℕ) → IsDoubleTextIn m p s → double_text_in m p ≡ Some s
text_to Special p s h = h
text_to Finite p s (inl h) = rw h refl
text_to Finite p s (inr h) = text_to_at (double_text p) p s refl h.0 (finite_text_to p s h.0 h.1)

has_text_at : (o : Option (List ℕ)) (p : ℕ) → is_some (or_finite_text o p) ≡ (is_some o || is_finite p)
has_text_at (Some s) p = refl
has_text_at None p = finite_text-some p

pub has_text : (m : Doubles) (p : ℕ) → is_some (double_text_in m p) ≡ is_writable m p
has_text Special p = special_is p
has_text Finite p = has_text_at (double_text p) p ∙ ap (λ b. b || is_finite p) (special_is p)

-- a pattern with no text of the six is in normal form
normal_at : (a b c d e f : Bool) (p : ℕ)
    → cond a (Some (codes "0.0")) (cond b (Some (codes "-0.0")) (cond c (Some (codes "Infinity"))
    (cond d (Some (codes "-Infinity")) (cond e (Some (codes "NaN")) (cond f (Some (codes "-NaN")) None))))) ≡ None
    → cond e 0x7FF8000000000000 (cond f 0xFFF8000000000000 p) ≡ p
normal_at true b c d e f p h = cc
normal_at false true c d e f p h = cc
normal_at false false true d e f p h = cc
normal_at false false false true e f p h = cc
normal_at false false false false true f p h = cc
normal_at false false false false false true p h = cc
normal_at false false false false false false p h = refl

no_text_normal : (p : ℕ) → double_text p ≡ None → normal_double p ≡ p
no_text_normal p h = normal_at _ _ _ _ _ _ p h

form_at : (o : Option (List ℕ)) (p : ℕ) → double_text p ≡ o
    → or_finite_text o (normal_double p) ≡ or_finite_text o p
form_at (Some s) p is = refl
form_at None p is = ap finite_double_text (no_text_normal p is)

pub text_form : (m : Doubles) (p : ℕ) → double_text_in m (normal_double p) ≡ double_text_in m p
text_form Special p = double_text-form p
text_form Finite p =
    ap (λ o. or_finite_text o (normal_double p)) (double_text-form p) ∙ form_at (double_text p) p refl

-- what is written is read as the normal form
again_at : (o : Option (List ℕ)) (p : ℕ) (s : List ℕ) → p < 2 ^ 64 → double_text p ≡ o → or_finite_text o p ≡ Some s
    → double_bits_of_text Finite s ≡ Some (normal_double p)
again_at (Some t) p s small is h = double_to Finite s _ (double_again p s (is ∙ h))
again_at None p s small is h =
    let t = finite_text_is p s h in
    finite_to s _ (read_back p s small t.0 t.1 ∙ ap Some (sym (finite_normal p t.0)))

pub again : (m : Doubles) (p : ℕ) (s : List ℕ) → p < 2 ^ 64 → double_text_in m p ≡ Some s
    → double_bits_of_text m s ≡ Some (normal_double p)
again Special p s small h = double_again p s h
again Finite p s small h = again_at (double_text p) p s small refl h

-- ---- each pattern of 64 bits has a text

not_special : (a b c d : Bool) → (a || b || (c || d)) ≡ false → (c ≡ false) × (d ≡ false)
not_special true b c d h = cc
not_special false true c d h = cc
not_special false false true d h = cc
not_special false false false true h = cc
not_special false false false false h = (refl, refl)

pub other_finite : (p : ℕ) → p < 2 ^ 64 → is_special p ≡ false → is_finite p ≡ true
other_finite p small h =
    let n = not_special (nat_eq p 0) (nat_eq p 0x8000000000000000) (nat_eq (p / 2 ^ 52) 0x7FF)
    (nat_eq (p / 2 ^ 52) 0xFFF) h in
    let low = eqb-false _ _ n.0 in
    let high = eqb-false _ _ n.1 in
    lt-ltb (p % 2 ^ 63) 0x7FF0000000000000 (omega (arith, small, low, high))

all_at : (b : Bool) (p : ℕ) → p < 2 ^ 64 → is_special p ≡ b → (b || is_finite p) ≡ true
all_at true p small h = refl
all_at false p small h = other_finite p small h

pub all_writable : (p : ℕ) → p < 2 ^ 64 → is_writable Finite p ≡ true
all_writable p small = all_at (is_special p) p small refl
