-- `$numberDouble`.
use Rattle.std.proofs.Common.{◌≡◌, ◌^◌, ◌/◌, ℕ, List, Bool, true, false, ◌&&◌, ◌||◌, cond, Option, Some, None, refl}
use Rattle.std.proofs.Common.{sym, ap, ◌∙◌, subst, nat_eq, nat_lt, arith}
use Rattle.std.specs.Prelude.{codes, is_some}
use Rattle.std.proofs.lemmas.Bool.{eqb-true, eqb-false, ltb-true, ltb-false, ne_eqb}
use Rattle.bson_scalar.specs.Doubles.{special_double_pattern, double_text, normal_double, is_nan, is_minus_nan, is_special}
use Rattle.bson_scalar.specs.Normal.{IsReadScalar}
use Rattle.bson_scalar.specs.Scalar.{double}
use Rattle.bson_scalar.proofs.InverseLemmas.{un_some}

-- ---- a text

form_at : (a b c d e f : Bool) (p : ℕ)
    → cond a (Some 0) (cond b (Some 0x8000000000000000)
    (cond c (Some 0x7FF0000000000000)
    (cond d (Some 0xFFF0000000000000) (cond e (Some 0x7FF8000000000000) (cond f (Some 0xFFF8000000000000) None)))))
    ≡ Some p
    → IsReadScalar (double p)
form_at true b c d e f p h = subst (λ x. IsReadScalar (double x)) (un_some _ _ h) (refl, refl)
form_at false true c d e f p h = subst (λ x. IsReadScalar (double x)) (un_some _ _ h) (refl, refl)
form_at false false true d e f p h = subst (λ x. IsReadScalar (double x)) (un_some _ _ h) (refl, refl)
form_at false false false true e f p h = subst (λ x. IsReadScalar (double x)) (un_some _ _ h) (refl, refl)
form_at false false false false true f p h = subst (λ x. IsReadScalar (double x)) (un_some _ _ h) (refl, refl)
form_at false false false false false true p h = subst (λ x. IsReadScalar (double x)) (un_some _ _ h) (refl, refl)
form_at false false false false false false p h = cc

pub double_form : (s : List ℕ) (p : ℕ) → special_double_pattern s ≡ Some p → IsReadScalar (double p)
double_form s p h = form_at _ _ _ _ _ _ p h

-- ---- a pattern, its text and its form

-- the text reads as the form of the pattern, which has the same text
abbrev Again : ℕ → Type 0
Again p = (double_text (normal_double p) ≡ double_text p)
    × ((s : List ℕ) → double_text p ≡ Some s → special_double_pattern s ≡ Some (normal_double p))

at_text : (t s : List ℕ) (o : Option ℕ) → Some t ≡ Some s → special_double_pattern t ≡ o → special_double_pattern s ≡ o
at_text t s o e h = subst (λ u. special_double_pattern u ≡ o) (un_some _ _ e) h

again_at : (a b c d e f : Bool) (p : ℕ) → nat_eq p 0 ≡ a → nat_eq p 0x8000000000000000 ≡ b
    → nat_eq p 0x7FF0000000000000 ≡ c → nat_eq p 0xFFF0000000000000 ≡ d → is_nan p ≡ e → is_minus_nan p ≡ f → Again p
again_at true b c d e f p i j k l m n =
    subst Again (sym (eqb-true p _ i)) (refl, λ s h. at_text (codes "0.0") s _ h refl)
again_at false true c d e f p i j k l m n =
    subst Again (sym (eqb-true p _ j)) (refl, λ s h. at_text (codes "-0.0") s _ h refl)
again_at false false true d e f p i j k l m n =
    subst Again (sym (eqb-true p _ k)) (refl, λ s h. at_text (codes "Infinity") s _ h refl)
again_at false false false true e f p i j k l m n =
    subst Again (sym (eqb-true p _ l)) (refl, λ s h. at_text (codes "-Infinity") s _ h refl)
again_at false false false false true f p i j k l m n =
    let form : normal_double p ≡ 0x7FF8000000000000 = rw m refl in
    let text : double_text p ≡ Some (codes "NaN") = rw (i, j, k, l, m) refl in
    (ap double_text form ∙ sym text, λ s h. at_text (codes "NaN") s _ (sym text ∙ h) (sym (ap Some form)))
again_at false false false false false true p i j k l m n =
    let form : normal_double p ≡ 0xFFF8000000000000 = rw (m, n) refl in
    let text : double_text p ≡ Some (codes "-NaN") = rw (i, j, k, l, m, n) refl in
    (ap double_text form ∙ sym text, λ s h. at_text (codes "-NaN") s _ (sym text ∙ h) (sym (ap Some form)))
again_at false false false false false false p i j k l m n =
    let form : normal_double p ≡ p = rw (m, n) refl in
    let text : double_text p ≡ None = rw (i, j, k, l, m, n) refl in
    (ap double_text form, λ s h. let never = sym text ∙ h in cc)

again : (p : ℕ) → Again p
again p = again_at _ _ _ _ _ _ p refl refl refl refl refl refl

pub double_text-form : (p : ℕ) → double_text (normal_double p) ≡ double_text p
double_text-form p = (again p).0

pub double_again : (p : ℕ) (s : List ℕ) → double_text p ≡ Some s → special_double_pattern s ≡ Some (normal_double p)
double_again p = (again p).1

form_again_at : (e f : Bool) (p : ℕ) → is_nan p ≡ e → is_minus_nan p ≡ f
    → normal_double (normal_double p) ≡ normal_double p
form_again_at true f p m n = let form : normal_double p ≡ 0x7FF8000000000000 = rw m refl in
    ap normal_double form ∙ sym form
form_again_at false true p m n = let form : normal_double p ≡ 0xFFF8000000000000 = rw (m, n) refl in
    ap normal_double form ∙ sym form
form_again_at false false p m n = let form : normal_double p ≡ p = rw (m, n) refl in ap normal_double form

pub nan_form-again : (p : ℕ) → normal_double (normal_double p) ≡ normal_double p
nan_form-again p = form_again_at _ _ p refl refl

-- ---- the texts are those of the zeros, infinities and NaNs

-- the exponent of the patterns past an infinity
nan_test : (b c : Bool) (p : ℕ) → nat_lt 0x7FF0000000000000 p ≡ b → nat_lt p 0x8000000000000000 ≡ c
    → nat_eq p 0x7FF0000000000000 ≡ false → nat_eq (p / 2 ^ 52) 0x7FF ≡ (b && c)
nan_test true true p l h n = let low = ltb-true _ p l in let high = ltb-true p _ h in let is : p / 2 ^ 52 ≡ 0x7FF =
    omega arith in rw is refl
nan_test true false p l h n = let high = ltb-false p _ h in ne_eqb _ _ (λ is. omega (arith, is))
nan_test false c p l h n = let low = ltb-false _ p l in let other = eqb-false p _ n in
    ne_eqb _ _ (λ is. omega (arith, is, other))

minus_nan_test : (b c : Bool) (p : ℕ) → nat_lt 0xFFF0000000000000 p ≡ b → nat_lt p 0x10000000000000000 ≡ c
    → nat_eq p 0xFFF0000000000000 ≡ false → nat_eq (p / 2 ^ 52) 0xFFF ≡ (b && c)
minus_nan_test true true p l h n = let low = ltb-true _ p l in let high = ltb-true p _ h in
    let is : p / 2 ^ 52 ≡ 0xFFF = omega arith in rw is refl
minus_nan_test true false p l h n = let high = ltb-false p _ h in ne_eqb _ _ (λ is. omega (arith, is))
minus_nan_test false c p l h n = let low = ltb-false _ p l in let other = eqb-false p _ n in
    ne_eqb _ _ (λ is. omega (arith, is, other))

some_nan : (e f : Bool) → is_some (cond e (Some (codes "NaN")) (cond f (Some (codes "-NaN")) None)) ≡ (e || f)
some_nan true f = refl
some_nan false true = refl
some_nan false false = refl

special_at : (a b c d : Bool) (p : ℕ) → nat_eq p 0 ≡ a → nat_eq p 0x8000000000000000 ≡ b
    → nat_eq p 0x7FF0000000000000 ≡ c → nat_eq p 0xFFF0000000000000 ≡ d → is_some (double_text p) ≡ is_special p
special_at true b c d p i j k l = subst (λ n. is_some (double_text n) ≡ is_special n) (sym (eqb-true p _ i)) refl
special_at false true c d p i j k l = subst (λ n. is_some (double_text n) ≡ is_special n) (sym (eqb-true p _ j)) refl
special_at false false true d p i j k l =
    subst (λ n. is_some (double_text n) ≡ is_special n) (sym (eqb-true p _ k)) refl
special_at false false false true p i j k l =
    subst (λ n. is_some (double_text n) ≡ is_special n) (sym (eqb-true p _ l)) refl
special_at false false false false p i j k l =
    rw (i, j, k, l, nan_test _ _ p refl refl k, minus_nan_test _ _ p refl refl l) (some_nan _ _)

-- a pattern has a text exactly if it is a zero, an infinity or a NaN
pub special_is : (p : ℕ) → is_some (double_text p) ≡ is_special p
special_is p = special_at _ _ _ _ p refl refl refl refl
