-- Patterns of finite doubles, and the decimal texts that mean them.
use Rattle.std.proofs.Common.{◌≡◌, ◌<◌, ◌^◌, ◌%◌, ◌+◌, ℕ, List, Bool, true, false, ◌&&◌, cond, Option, Some, None}
use Rattle.std.proofs.Common.{inl, drop, slice_index, T, refl, sym, ap, ◌∙◌, subst, nat_eq, nat_lt, arith, length, to_bits}
use Rattle.std.specs.Prelude.{codes, is_some, option_map, option_and_then, ◌==◌}
use Rattle.std.specs.Float.{Float, binary64, float_is_finite, inf, nan}
use Rattle.std.specs.Str.{bytes_eq}
use Rattle.std.proofs.lemmas.Bool.{eqb-true, ltb-true, lt-ltb}
use Rattle.std.specs.Float.Numeral.{minus}
use Rattle.std.specs.Float.Parse.{parse_float, read_float, sign_len, begins_with}
use lib.Ieee.{fits}
use lib.Ieee.Bits.{of_bits-to_bits, to_bits-lt}
use lib.Ieee.Fits.{round-fits, inf-fits, nan-fits}
use Rattle.ryu.proofs.Signs.{parts, finite_number as number_of_finite}
use Rattle.bson_double.specs.FiniteDoubles.{is_finite, is_number, finite_bits, parsed_finite_bits}
use Rattle.bson_double.specs.DoubleText.{IsDoubleText}
use Rattle.bson_double.proofs.Offered.{one_text, read_back}
use Rattle.bson_scalar.specs.Doubles.{special_double_pattern, double_text, normal_double, is_nan, is_minus_nan, finite_float_bits}
use Rattle.bson_scalar.specs.Shortest.{finite_double_text}
use Rattle.bson_scalar.proofs.InverseLemmas.{un_some, if_some, key_is}
use Rattle.bson_scalar.proofs.ShortestText.{finite_text-some, finite_text_is}

-- ---- what is read is a finite pattern

abbrev IsPattern : ℕ → Type 0
IsPattern p = (p < 2 ^ 64) × (is_finite p ≡ true)

pub bits_finite : (x : Float) → T (fits binary64 x) → float_is_finite x ≡ true → IsPattern (to_bits binary64 x)
bits_finite x fit finite =
    let small = to_bits-lt binary64 x fit in
    let sides = parts binary64 x (to_bits binary64 x) (of_bits-to_bits binary64 x fit) small (number_of_finite x finite) in
    (small, lt-ltb _ _ (sides.finite.0 finite))

both_if : (a b : Bool) (n p : ℕ) → cond a (cond b (Some n) None) None ≡ Some p → (a ≡ true) × (b ≡ true) × (n ≡ p)
both_if true true n p h = (refl, refl, un_some _ _ h)
both_if true false n p h = cc
both_if false b n p h = cc

pub pattern_finite : (x : Float) (p : ℕ) → finite_float_bits x ≡ Some p → IsPattern p
pattern_finite x p h =
    let g = both_if _ _ _ p h in
    subst IsPattern g.2 (bits_finite x (subst T (sym g.0) tt) g.1)

-- a number that a text writes is one of 64 bits
abbrev Fits : Option (Float × ℕ) → Type 0
Fits o = (r : Float × ℕ) → o ≡ Some r → T (fits binary64 r.0)

fits_one : (q r : Float × ℕ) → T (fits binary64 q.0) → Some q ≡ Some r → T (fits binary64 r.0)
fits_one q r fit h = subst (λ (p : Float × ℕ). T (fits binary64 p.0)) (un_some q r h) fit

word_fits : (a b c s : Bool)
    → Fits (cond a (Some (inf s, 8)) (cond b (Some (inf s, 3)) (cond c (Some (nan, 3)) None)))
word_fits true b c s = λ r h. fits_one _ r (inf-fits binary64 s) h
word_fits false true c s = λ r h. fits_one _ r (inf-fits binary64 s) h
word_fits false false true s = λ r h. fits_one _ r (nan-fits binary64) h
word_fits false false false s = λ r h. cc

either_fits : (b : Bool) (q : Float × ℕ) (o : Option (Float × ℕ)) → T (fits binary64 q.0) → Fits o
    → Fits (cond b (Some q) o)
either_fits true q o fit all = λ r h. fits_one q r fit h
either_fits false q o fit all = all

moved_fits : (k : ℕ) (o : Option (Float × ℕ)) → Fits o → Fits (option_map (λ r. (r.0, k + r.1)) o)
moved_fits k (Some q) all = λ r h. fits_one _ r (all q refl) h
moved_fits k None all = λ r h. cc

read_fits : (s : List ℕ) → Fits (read_float binary64 s)
unfolding read_float
read_fits s =
    let rest = drop (sign_len s) s in
    moved_fits (sign_len s) _ (either_fits _ _ _ (round-fits binary64 _ _ _)
    (word_fits (begins_with rest (codes "infinity")) (begins_with rest (codes "inf")) (begins_with rest (codes "nan"))
    (slice_index s 0 == minus)))

whole_fits : (n : ℕ) (o : Option (Float × ℕ)) (x : Float) → Fits o
    → option_and_then (λ r. cond (r.1 == n) (Some r.0) None) o ≡ Some x → T (fits binary64 x)
whole_fits n (Some r) x all h = subst (λ y. T (fits binary64 y)) (if_some _ _ x h).1 (all r refl)
whole_fits n None x all h = cc

parsed_fits : (s : List ℕ) (x : Float) → parse_float binary64 s ≡ Some x → T (fits binary64 x)
parsed_fits s x h = whole_fits (length s) (read_float binary64 s) x (read_fits s) h

then_finite : (o : Option Float) (p : ℕ) → ((x : Float) → o ≡ Some x → T (fits binary64 x))
    → option_and_then finite_bits o ≡ Some p → IsPattern p
then_finite (Some x) p all h = let g = if_some _ _ p h in subst IsPattern g.1 (bits_finite x (all x refl) g.0)
then_finite None p all h = cc

number_then : (b : Bool) (o : Option ℕ) (p : ℕ) → cond b o None ≡ Some p → o ≡ Some p
number_then true o p h = h
number_then false o p h = cc

pub text_finite : (s : List ℕ) (p : ℕ) → parsed_finite_bits s ≡ Some p → IsPattern p
text_finite s p h = then_finite (parse_float binary64 s) p (parsed_fits s) (number_then (is_number s) _ p h)

-- ---- a finite pattern is in normal form

no_nan : (b c : Bool) (p : ℕ) → p % 2 ^ 63 < 0x7FF0000000000000 → nat_lt 0x7FF0000000000000 p ≡ b
    → nat_lt p 0x8000000000000000 ≡ c → (b && c) ≡ false
no_nan true true p l i j = let low = ltb-true _ p i in let high = ltb-true p _ j in absurd (omega (arith, l))
no_nan true false p l i j = refl
no_nan false c p l i j = refl

no_minus_nan : (b c : Bool) (p : ℕ) → p % 2 ^ 63 < 0x7FF0000000000000 → nat_lt 0xFFF0000000000000 p ≡ b
    → nat_lt p 0x10000000000000000 ≡ c → (b && c) ≡ false
no_minus_nan true true p l i j = let low = ltb-true _ p i in let high = ltb-true p _ j in absurd (omega (arith, l))
no_minus_nan true false p l i j = refl
no_minus_nan false c p l i j = refl

pub finite_normal : (p : ℕ) → is_finite p ≡ true → normal_double p ≡ p
finite_normal p finite =
    let l = ltb-true _ _ finite in
    rw (no_nan _ _ p l refl refl, no_minus_nan _ _ p l refl refl) refl

-- ---- the text of a finite pattern

pub some_of : {A : Type 0} (o : Option A) → is_some o ≡ true → (x : A) × (o ≡ Some x)
some_of (Some x) h = (x, refl)
some_of None h = cc

pub finite_text_to : (p : ℕ) (s : List ℕ) → is_finite p ≡ true → IsDoubleText p s → finite_double_text p ≡ Some s
finite_text_to p s finite text =
    let t = some_of (finite_double_text p) (finite_text-some p ∙ finite) in
    t.1 ∙ ap Some (one_text p t.0 s (finite_text_is p t.0 t.1).1 text)

-- ---- beside the six texts: the zeros have one text by both ways, and the words write no number

zero_text : IsDoubleText 0 (codes "0.0")
zero_text = (codes "0.0", inl (refl, refl), refl)

minus_zero_text : IsDoubleText 0x8000000000000000 (codes "-0.0")
minus_zero_text = (codes "0.0", inl (refl, refl), refl)

text_of_zero : (a b c d e f : Bool) (p : ℕ) (s : List ℕ) → nat_eq p 0 ≡ a → nat_eq p 0x8000000000000000 ≡ b
    → nat_eq p 0x7FF0000000000000 ≡ c → nat_eq p 0xFFF0000000000000 ≡ d → is_nan p ≡ e → is_minus_nan p ≡ f
    → is_finite p ≡ true
    → cond a (Some (codes "0.0")) (cond b (Some (codes "-0.0")) (cond c (Some (codes "Infinity"))
    (cond d (Some (codes "-Infinity")) (cond e (Some (codes "NaN")) (cond f (Some (codes "-NaN")) None))))) ≡ Some s
    → IsDoubleText p s
text_of_zero true b c d e f p s i j k l m n finite h =
    subst (λ t. IsDoubleText p t) (un_some _ _ h) (subst (λ q. IsDoubleText q (codes "0.0")) (sym (eqb-true p _ i)) zero_text)
text_of_zero false true c d e f p s i j k l m n finite h =
    subst (λ t. IsDoubleText p t) (un_some _ _ h)
    (subst (λ q. IsDoubleText q (codes "-0.0")) (sym (eqb-true p _ j)) minus_zero_text)
text_of_zero false false true d e f p s i j k l m n finite h =
    let never : is_finite 0x7FF0000000000000 ≡ true = subst (λ q. is_finite q ≡ true) (eqb-true p _ k) finite in cc
text_of_zero false false false true e f p s i j k l m n finite h =
    let never : is_finite 0xFFF0000000000000 ≡ true = subst (λ q. is_finite q ≡ true) (eqb-true p _ l) finite in cc
text_of_zero false false false false true f p s i j k l m n finite h =
    let low = ltb-true _ _ finite in let never = sym m ∙ no_nan _ _ p low refl refl in cc
text_of_zero false false false false false true p s i j k l m n finite h =
    let low = ltb-true _ _ finite in let never = sym n ∙ no_minus_nan _ _ p low refl refl in cc
text_of_zero false false false false false false p s i j k l m n finite h = cc

pub special_text_is : (p : ℕ) (s : List ℕ) → is_finite p ≡ true → double_text p ≡ Some s → IsDoubleText p s
special_text_is p s finite h = text_of_zero _ _ _ _ _ _ p s refl refl refl refl refl refl finite h

-- a word of the six and a number mean one pattern
abbrev Agree : List ℕ → ℕ → Type 0
Agree s q = (p : ℕ) → parsed_finite_bits s ≡ Some p → q ≡ p

agree_zero : Agree (codes "0.0") 0
agree_zero p h = un_some _ _ (sym (read_back 0 (codes "0.0") (omega arith) refl zero_text) ∙ h)

agree_minus_zero : Agree (codes "-0.0") 0x8000000000000000
agree_minus_zero p h =
    un_some _ _ (sym (read_back 0x8000000000000000 (codes "-0.0") (omega arith) refl minus_zero_text) ∙ h)

no_number : (s : List ℕ) (q : ℕ) → is_number s ≡ false → Agree s q
no_number s q e p h = let none : parsed_finite_bits s ≡ None = rw e refl in let never = sym none ∙ h in cc

agree_at : (a b c d e f : Bool) (s : List ℕ) (q : ℕ) → bytes_eq s (codes "0.0") ≡ a → bytes_eq s (codes "-0.0") ≡ b
    → bytes_eq s (codes "Infinity") ≡ c → bytes_eq s (codes "-Infinity") ≡ d → bytes_eq s (codes "NaN") ≡ e
    → bytes_eq s (codes "-NaN") ≡ f
    → cond a (Some 0) (cond b (Some 0x8000000000000000) (cond c (Some 0x7FF0000000000000)
    (cond d (Some 0xFFF0000000000000) (cond e (Some 0x7FF8000000000000) (cond f (Some 0xFFF8000000000000) None)))))
    ≡ Some q
    → Agree s q
agree_at true b c d e f s q i j k l m n h =
    rw (key_is s _ i) (subst (Agree (codes "0.0")) (un_some _ _ h) agree_zero)
agree_at false true c d e f s q i j k l m n h =
    rw (key_is s _ j) (subst (Agree (codes "-0.0")) (un_some _ _ h) agree_minus_zero)
agree_at false false true d e f s q i j k l m n h = rw (key_is s _ k) (no_number (codes "Infinity") q refl)
agree_at false false false true e f s q i j k l m n h = rw (key_is s _ l) (no_number (codes "-Infinity") q refl)
agree_at false false false false true f s q i j k l m n h = rw (key_is s _ m) (no_number (codes "NaN") q refl)
agree_at false false false false false true s q i j k l m n h = rw (key_is s _ n) (no_number (codes "-NaN") q refl)
agree_at false false false false false false s q i j k l m n h = cc

pub agree : (s : List ℕ) (q : ℕ) → special_double_pattern s ≡ Some q → Agree s q
agree s q h = agree_at _ _ _ _ _ _ s q refl refl refl refl refl refl h
