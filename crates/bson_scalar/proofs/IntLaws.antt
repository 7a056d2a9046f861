-- `$numberInt`, `$numberLong` and plain numbers.
use Rattle.std.proofs.Common.{◌≡◌, ◌<◌, ◌^◌, ℤ, pos, negsuc, Bool, true, false, cond, Option, Some, None, refl, ap}
use Rattle.std.proofs.Common.{sym, subst, inl, inr, ◌∙◌, w32, w64, arith}
use Rattle.std.specs.Prelude.{Ok, FitsSigned, codes}
use Rattle.std.specs.Fmt.{signed_decimal}
use Rattle.std.proofs.lemmas.Bool.{lt-ltb}
use Rattle.std.proofs.lemmas.Fmt.{parse-signed_decimal}
use lib.Signed.{mag}
use mir.Syntax.{Width}
use mir.Val.{hbits}
use Rattle.serde_json.specs.Find.{as_i64, of_integer}
use Rattle.bson_scalar.specs.Doubles.{finite_number}
use Rattle.serde_json.specs.Data.{Data, Num}
use Rattle.serde_json.specs.Data as tree
use Rattle.bson_scalar.specs.Ints.{fits_bits, narrowest_int}
use Rattle.bson_scalar.specs.Means.{MeansScalar, narrow_number, wide_number, number_int, number_long}
use Rattle.bson_scalar.specs.Means.{MeansScalarIn, nearest_to_number}
use Rattle.bson_scalar.specs.Reading.{number_read, number_read_in, integer_or_double_read, int32_read, int64_read, parsed_int}
use Rattle.bson_scalar.specs.Scalar.{Scalar, int32, int64}
use Rattle.bson_scalar.specs.TreeParts.{one_key_object}
use Rattle.bson_scalar.specs.declared.form.Doubles.{Doubles}
use Rattle.bson_scalar.specs.declared.form.Doubles.TheVariants.{Special, Finite}
use Rattle.bson_scalar.proofs.InverseLemmas.{means_by, un_ok, text_then, some_then}
use Rattle.bson_scalar.proofs.IntText.{fits_true, fits_from, int_of_from, int_of_parsed}

pub int32_from : (d : Data) (x : Scalar) → int32_read d ≡ Ok x → MeansScalar (one_key_object (codes "$numberInt") d) x
int32_from d x h =
    let t = text_then d _ x h in
    let n = some_then (parsed_int 31 t.0) _ x t.2 in
    means_by (codes "$numberInt") d _ x _ t.1 (un_ok _ _ n.2) (number_int t.0 n.0 (int_of_from w32 t.0 n.0 n.1))

pub int64_from : (d : Data) (x : Scalar) → int64_read d ≡ Ok x → MeansScalar (one_key_object (codes "$numberLong") d) x
int64_from d x h =
    let t = text_then d _ x h in
    let n = some_then (parsed_int 63 t.0) _ x t.2 in
    means_by (codes "$numberLong") d _ x _ t.1 (un_ok _ _ n.2) (number_long t.0 n.0 (int_of_from w64 t.0 n.0 n.1))

number_at : (b : Bool) (n : Num) (z : ℤ) (x : Scalar) → as_i64 n ≡ Some z → fits_bits 31 z ≡ b
    → x ≡ cond b (int32 z) (int64 z) → MeansScalar (tree.number n) x
number_at true n z x is h e = rw e (narrow_number n z is (record { sfits = fits_from 31 z h }))
number_at false n z x is h e = rw e (wide_number n z is (λ f. let t = fits_true 31 z f.sfits in cc))

number_from : (n : Num) (x : Scalar) → number_read n ≡ Ok x → MeansScalar (tree.number n) x
number_from n x h = let t = some_then (as_i64 n) _ x h in number_at _ n t.0 x t.1 refl (un_ok _ _ t.2)

either_from : (o : Option ℤ) (n : Num) (x : Scalar) → as_i64 n ≡ o → integer_or_double_read o n ≡ Ok x
    → MeansScalarIn Finite (tree.number n) x
either_from (Some z) n x is h = inl (number_at _ n z x is refl (un_ok _ _ h))
either_from None n x is h =
    let p = some_then (finite_number n) _ x h in
    subst (λ y. MeansScalarIn Finite (tree.number n) y) (sym (un_ok _ _ p.2)) (inr (nearest_to_number n p.0 is p.1))

pub number_from_in : (m : Doubles) (n : Num) (x : Scalar) → number_read_in m n ≡ Ok x
    → MeansScalarIn m (tree.number n) x
number_from_in Special n x h = number_from n x h
number_from_in Finite n x h = either_from (as_i64 n) n x refl h

wide : (b : Bool) (z : ℤ) → fits_bits 31 z ≡ b → (FitsSigned w32 z → ⊥) → fits_bits 31 z ≡ false
wide true z h never = absurd (never (record { sfits = fits_from 31 z h }))
wide false z h never = h

pub whole_read : (m : Doubles) (n : Num) (z : ℤ) → as_i64 n ≡ Some z → number_read_in m n ≡ Ok (narrowest_int z)
whole_read Special n z is = rw is refl
whole_read Finite n z is = rw is refl

pub narrow_read : (m : Doubles) (n : Num) (z : ℤ) → as_i64 n ≡ Some z → FitsSigned w32 z
    → number_read_in m n ≡ Ok (int32 z)
narrow_read m n z is fits = whole_read m n z is ∙ ap (λ b. Ok (cond b (int32 z) (int64 z))) (fits_true 31 z fits.sfits)

pub wide_read : (m : Doubles) (n : Num) (z : ℤ) → as_i64 n ≡ Some z → (FitsSigned w32 z → ⊥)
    → number_read_in m n ≡ Ok (int64 z)
wide_read m n z is never = whole_read m n z is ∙ ap (λ b. Ok (cond b (int32 z) (int64 z))) (wide _ z refl never)

-- a written number is read again
pub int_again : (w : Width) (z : ℤ) → FitsSigned w z → mag z < 2 ^ 63 → parsed_int (hbits w) (signed_decimal z) ≡ Some z
int_again w z fits small =
    int_of_parsed w (signed_decimal z) z (λ r h. parse-signed_decimal w z (signed_decimal z) r fits small refl h)

pub int32_again : (z : ℤ) → FitsSigned w32 z → parsed_int 31 (signed_decimal z) ≡ Some z
int32_again z fits = int_again w32 z fits (let small : mag z < 2 ^ 31 = fits.sfits in omega arith)

pub int64_again : (z : ℤ) → FitsSigned w64 z → parsed_int 63 (signed_decimal z) ≡ Some z
int64_again z fits = int_again w64 z fits fits.sfits

pub integer_again : (z : ℤ) → FitsSigned w64 z → as_i64 (of_integer z) ≡ Some z
integer_again (pos n) fits = let small : n < 2 ^ 63 = fits.sfits in rw (lt-ltb n (2 ^ 63) small) refl
integer_again (negsuc n) fits = refl

pub number_again : (m : Doubles) (z : ℤ) → FitsSigned w64 z → number_read_in m (of_integer z) ≡ Ok (narrowest_int z)
number_again m z fits = whole_read m (of_integer z) z (integer_again z fits)
