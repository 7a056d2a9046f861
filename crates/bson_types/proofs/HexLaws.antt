-- What the kit reads in a text of hexadecimal digits is what the text says.
use Rattle.std.proofs.Common.{◌≡◌, inl, inr, ℕ, ◌+◌, ◌*◌, ◌%◌, List, [], ◌∷◌, length, Option, Some, None, Result, Ok}
use Rattle.std.proofs.Common.{Err, unwrap_or, refl, sym, ap, ◌∙◌, subst, arith}
use Rattle.std.specs.Result.{result_unwrap_or}
use Rattle.std.proofs.lemmas.Bool.Decides.{nat_tests}
use Rattle.hex.specs.declared.error.FromHexError.{FromHexError}
use Rattle.hex.specs.Hex.{decode_pairs, decode_sized, digit_or_error, hex_digit_value, pair_value, value_at, ◌>>=◌}
use Rattle.hex.proofs.HexLemmas.{decode_of-even, decode_sized-ok, decode_sized-twice}
use Rattle.hex.specs.declared.error.FromHexError.TheVariants.{InvalidHexCharacter}
use Rattle.bson_types.specs.HexText.{IsHexDigitOf, IsHexText, nothing, digit_pair, byte_of_hex_digits}

-- ---- a digit

digit_from : (c v : ℕ) → hex_digit_value c ≡ Some v → IsHexDigitOf v c
digit_from c v h = grind (arith, nat_tests, h)

digit_to : (c v : ℕ) → IsHexDigitOf v c → hex_digit_value c ≡ Some v
digit_to c v (inl is) = grind (arith, nat_tests, is.0, is.1)
digit_to c v (inr (least, most, inl is)) = grind (arith, nat_tests, least, most, is)
digit_to c v (inr (least, most, inr is)) = grind (arith, nat_tests, least, most, is)

-- ---- a text

then_ok : {A B : Type 0} (r : Result A FromHexError) (f : A → Result B FromHexError) (y : B) → (r >>= f) ≡ Ok y
    → (x : A) × (r ≡ Ok x) × (f x ≡ Ok y)
then_ok (Ok x) f y h = (x, refl, h)
then_ok (Err e) f y h = cc h

digit_read : (c i : ℕ) (o : Option ℕ) (v : ℕ) → digit_or_error c i o ≡ Ok v → o ≡ Some v
digit_read c i (Some w) v h = ap Some (ap (λ (r : Result ℕ FromHexError). result_unwrap_or r 0) h)
digit_read c i None v h = cc h

pairs_from : (i : ℕ) (text bytes : List ℕ) → decode_pairs i text ≡ Ok bytes → IsHexText text bytes
unfolding decode_pairs
pairs_from i [] bytes h =
    let e : [] ≡ bytes = ap (λ (r : Result (List ℕ) FromHexError). result_unwrap_or r []) h in
    rw (← e) nothing
pairs_from i (c ∷ []) bytes h = cc h
pairs_from i (c ∷ d ∷ text) bytes h =
    let both = then_ok (pair_value c d i) _ bytes h in
    let high = then_ok (value_at c i) _ both.0 both.1 in
    let low = then_ok (value_at d (i + 1)) _ both.0 high.2 in
    let rest = then_ok (decode_pairs (i + 2) text) _ bytes both.2 in
    let value : high.0 * 16 + low.0 ≡ both.0 = ap (λ (r : Result ℕ FromHexError). result_unwrap_or r 0) low.2 in
    let whole : both.0 ∷ rest.0 ≡ bytes = ap (λ (r : Result (List ℕ) FromHexError). result_unwrap_or r []) rest.2 in
    let first = digit_from c high.0 (digit_read c i (hex_digit_value c) high.0 high.1) in
    let second = digit_from d low.0 (digit_read d (i + 1) (hex_digit_value d) low.0 low.1) in
    let is = digit_pair high.0 low.0 c d text rest.0 first second (pairs_from (i + 2) text rest.0 rest.1) in
    subst (IsHexText (c ∷ d ∷ text)) whole (subst (λ b. IsHexText (c ∷ d ∷ text) (b ∷ rest.0)) value is)

pairs_to : (i : ℕ) {text bytes : List ℕ} → IsHexText text bytes → decode_pairs i text ≡ Ok bytes
unfolding decode_pairs
pairs_to i nothing = refl
pairs_to i (digit_pair high low c d text bytes first second rest) =
    rw (digit_to c high first, digit_to d low second, pairs_to (i + 2) rest) refl

-- two digits a byte
pub twice : {text bytes : List ℕ} → IsHexText text bytes → length text ≡ 2 * length bytes
twice nothing = refl
twice (digit_pair high low c d text bytes first second rest) = omega (arith, twice rest)

pub sized_from : (n : ℕ) (text bytes : List ℕ) → decode_sized text n ≡ Ok bytes
    → IsHexText text bytes × (length bytes ≡ n)
sized_from n text bytes h =
    let long = decode_sized-ok text n bytes h in
    let even : length text % 2 ≡ 0 = omega (arith, long) in
    let is = pairs_from 0 text bytes (sym (decode_of-even text even) ∙ sym (decode_sized-twice text n long) ∙ h) in
    (is, omega (arith, long, twice is))

pub sized_to : (n : ℕ) (text bytes : List ℕ) → IsHexText text bytes → length bytes ≡ n → decode_sized text n ≡ Ok bytes
sized_to n text bytes is size =
    let long : length text ≡ 2 * n = omega (arith, size, twice is) in
    let even : length text % 2 ≡ 0 = omega (arith, long) in
    decode_sized-twice text n long ∙ decode_of-even text even ∙ pairs_to 0 is

-- ---- two digits

pair_from : (x y : Option ℕ) (c d i v : ℕ) → byte_of_hex_digits x y ≡ Some v
    → (digit_or_error c i x >>= (λ high. digit_or_error d (i + 1) y >>= (λ low. Ok (high * 16 + low)))) ≡ Ok v
pair_from (Some high) (Some low) c d i v h = ap Ok (ap (λ (o : Option ℕ). unwrap_or o 0) h)
pair_from (Some high) None c d i v h = cc h
pair_from None y c d i v h = cc h

no_pair : (x y : Option ℕ) (c d i : ℕ) → byte_of_hex_digits x y ≡ None → (e : FromHexError)
    × ((digit_or_error c i x >>= (λ high. digit_or_error d (i + 1) y >>= (λ low. Ok (high * 16 + low)))) ≡ Err e)
no_pair (Some high) (Some low) c d i h = cc h
no_pair (Some high) None c d i h = (InvalidHexCharacter d (i + 1), refl)
no_pair None y c d i h = (InvalidHexCharacter c i, refl)

-- two digits are read as their byte
pub digits_read : (c d i v : ℕ) → byte_of_hex_digits (hex_digit_value c) (hex_digit_value d) ≡ Some v
    → pair_value c d i ≡ Ok v
digits_read c d i v h = pair_from (hex_digit_value c) (hex_digit_value d) c d i v h

-- two characters that are not digits are not read
pub digits_refused : (c d i : ℕ) → byte_of_hex_digits (hex_digit_value c) (hex_digit_value d) ≡ None
    → (e : FromHexError) × (pair_value c d i ≡ Err e)
digits_refused c d i h = no_pair (hex_digit_value c) (hex_digit_value d) c d i h
