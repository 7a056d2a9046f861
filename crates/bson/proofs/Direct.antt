-- Texts of scalars that are written token by token, and the memory that they need.
use Rattle.std.proofs.Common.{◌≡◌, ℕ, ◌<◌, ◌^◌, ◌==◌, codes, List, [], ◌∷◌, ◌++◌, Bool, true, false, cond, Option, Some, None, Result, Ok, Err}
use Rattle.std.proofs.Common.{from_bits, to_bits, refl, sym, subst, inr, arith, ◌+◌}
use Rattle.std.specs.Float.{Float, binary64}
use Rattle.bson_double.specs.FiniteDoubles.{is_finite}
use Rattle.bson_double.specs.DoubleText.{IsDoubleText}
use Rattle.bson_double.proofs.Offered.{bits_back, one_text}
use Rattle.std.specs.Prelude.{OnOk}
use Rattle.json.specs.Filled.{UsesSpare}
use Rattle.json.specs.Token.{Token}
use Rattle.serde_json.specs.Data.{Data}
use Rattle.bson_scalar.specs.Doubles.{double_text, double_tree, normal_double, is_nan, is_minus_nan}
use Rattle.bson_scalar.specs.Scalar.{double}
use Rattle.bson_scalar.specs.TreeText.{IsDouble, float_text}
use Rattle.bson_scalar.specs.Tokens.{AppendsTreeTokens}
use Rattle.bson_scalar.specs.Written.{double_writes_in, WriteFault, WrittenDoubleIn}
use Rattle.bson_scalar.specs.declared.form.Doubles.TheVariants.{Finite}
use Rattle.bson_scalar.specs.declared.form.Form.TheVariants.{Canonical}
use Rattle.bson_scalar.specs.declared.write_error.WriteError.{WriteError}
use Rattle.bson_scalar.specs.declared.write_error.WriteError.TheVariants.{OutOfMemory}
use Rattle.bson.specs.OutputCapacity.{StaysWithinCapacity, StaysWithinCapacityOrStops}
use Rattle.bson.specs.Texts.{AppendsPrintedTokens}
use Rattle.bson_scalar.proofs.Offered.{in_turn, pattern_is_double, written_to}

-- one more token
pub then : (old ts mid new : List Token) (t : Token) → mid ≡ old ++ ts → new ≡ mid ++ t ∷ [] → new ≡ old ++ (ts ++ t ∷ [])
then old ts mid new t p q = in_turn old ts mid (t ∷ []) new p q

-- what is written is printed
pub prints_put : (r : Result (Unit {0}) WriteError) (w : Result Data WriteFault) (old new : List Token) → AppendsTreeTokens r w old new
    → AppendsPrintedTokens (λ t. t) r w old new
prints_put (Ok done) (Ok t) old new h = (t, refl, h)
prints_put (Ok done) (Err e) old new h = absurd h
prints_put (Err e) w old new h = h

pub holds_on_ok : {P : Type 0} (r : Result (Unit {0}) WriteError) → P → OnOk r P
holds_on_ok (Ok done) h = h
holds_on_ok (Err e) h = tt

-- ---- the room

pub one_token : {E : Type 0} (r : Result (Unit {0}) E) (old new n : ℕ) → UsesSpare r old new n → StaysWithinCapacity r old new (n + 0)
one_token (Ok done) old new n h = omega arith
one_token (Err e) old new n h = omega (arith, h.0)

-- memory was wanting
pub wanting : (r : Result (Unit {0}) WriteError) (old new n : ℕ)
    → ((e : WriteError) × (r ≡ Err e) × (e ≡ OutOfMemory)) → old < n → StaysWithinCapacityOrStops r old new n
wanting r old new n p h = rw (p.1, p.2) h

-- ---- doubles

-- the text of a finite double is the one that its number has
pub number_is : (p : ℕ) (s : List ℕ) → ((x : Float) → IsDouble x → IsDoubleText (to_bits binary64 x) (float_text x))
    → p < 2 ^ 64 → is_finite p ≡ true → IsDoubleText p s → s ≡ float_text (from_bits binary64 p)
number_is p s law small finite text =
    one_text p s (float_text (from_bits binary64 p)) text
    (subst (λ q. IsDoubleText q (float_text (from_bits binary64 p))) (bits_back p small finite)
    (law (from_bits binary64 p) (pattern_is_double p small finite)))

none_left : {A : Type 0} (b : Bool) (x : A) (o : Option A) → cond b (Some x) o ≡ None → (b ≡ false) × (o ≡ None)
none_left true x o h = cc
none_left false x o h = (refl, h)

-- a double with none of the six texts is no NaN
none_normal : (p : ℕ) → double_text p ≡ None → normal_double p ≡ p
none_normal p h =
    let a = none_left (p == 0) (codes "0.0") _ h in
    let b = none_left (p == 0x8000000000000000) (codes "-0.0") _ a.1 in
    let c = none_left (p == 0x7FF0000000000000) (codes "Infinity") _ b.1 in
    let d = none_left (p == 0xFFF0000000000000) (codes "-Infinity") _ c.1 in
    let nan = none_left (is_nan p) (codes "NaN") _ d.1 in
    let minus = none_left (is_minus_nan p) (codes "-NaN") None nan.1 in
    rw (nan.0, minus.0) refl

-- in the canonical form a finite double with none of the six texts is its shortest decimal
pub canonical_is : (p : ℕ) (s : List ℕ) → double_text p ≡ None → is_finite p ≡ true → IsDoubleText p s
    → double_writes_in Finite Canonical p ≡ Ok (double_tree s)
canonical_is p s none finite text =
    written_to Finite Canonical (double p) (double_tree s)
    (subst (λ q. WrittenDoubleIn Finite Canonical q (double_tree s)) (sym (none_normal p none))
    (s, inr (finite, text), refl))
