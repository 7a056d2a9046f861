-- What the `uuid` crate reads in a text is what the text spells.
use Rattle.std.proofs.Common.{◌≡◌, ◌+◌, ◌*◌, ℕ, zero, suc, List, [], ◌∷◌, ◌++◌, length, length-append, take, drop}
use Rattle.std.proofs.Common.{slice_index, Bool, true, false, cond, Option, Some, None, inl, inr, refl, sym, ap, ◌∙◌}
use Rattle.std.proofs.Common.{subst, arith}
use Rattle.std.specs.Prelude.{codes}
use Rattle.std.specs.List.{list_all}
use Rattle.std.specs.Str.{str_to_ascii_lowercase}
use Rattle.std.proofs.lemmas.Bool.{and_parts, eqb-true}
use Rattle.std.proofs.lemmas.Bool.Decides.{nat_tests}
use Rattle.std.proofs.lemmas.List.{get_or_default, get_or_push, length-map, take_at, drop_at, take-append-drop}
use Rattle.std.proofs.lemmas.Slice.Eq.{bytes_eq-Decides}
use Rattle.uuid.specs.Text.{by_index, byte_of_digits, digits_of, has_hyphens, has_urn_prefix, is_hex_digit, parsed}
use Rattle.uuid.specs.Text.{parsed_braced, parsed_hyphenated, parsed_simple, parsed_urn, value_of}
use Rattle.uuid.proofs.TextLemmas.{by_index_cong, by_index_length, by_index_same}
use Rattle.bson_types.specs.HexText.{IsHexDigitOf, IsHexText, nothing, digit_pair}
use Rattle.bson_types.specs.Uuid.{AreUuidDigits, IsHyphenatedText, IsUuidText, IsUrnPrefix, with_hyphens, digits_alone}
use Rattle.bson_types.specs.Uuid.{hyphenated, braced, urn}
use Rattle.bson_types.proofs.HexLaws.{twice}

-- ---- digits

digit_from : (c : ℕ) → is_hex_digit c ≡ true → IsHexDigitOf (value_of c) c
digit_from c h = grind (arith, nat_tests, h)

digit_to : (v c : ℕ) → IsHexDigitOf v c → (is_hex_digit c ≡ true) × (value_of c ≡ v)
digit_to v c (inl is) = (grind (arith, nat_tests, is.0, is.1), grind (arith, nat_tests, is.0, is.1))
digit_to v c (inr (least, most, inl is)) =
    (grind (arith, nat_tests, least, most, is), grind (arith, nat_tests, least, most, is))
digit_to v c (inr (least, most, inr is)) =
    (grind (arith, nat_tests, least, most, is), grind (arith, nat_tests, least, most, is))

pub by_front : (n : ℕ) (f : ℕ → ℕ) → by_index (suc n) f ≡ f 0 ∷ by_index n (λ i. f (suc i))
unfolding by_index
by_front zero f = refl
by_front (suc n) f = ap (λ xs. xs ++ f (suc n) ∷ []) (by_front n f)

-- a byte has two places of the digits
next_byte : (c d : ℕ) (s : List ℕ) (i : ℕ) → byte_of_digits (c ∷ d ∷ s) (suc i) ≡ byte_of_digits s i
next_byte c d s i =
    let odd : 2 * suc i + 1 ≡ suc (suc (2 * i + 1)) = omega arith in
    let even : 2 * suc i ≡ suc (suc (2 * i)) = omega arith in
    rw (odd, even) refl

bytes_in_turn : (c d : ℕ) (s : List ℕ) (n : ℕ)
    → by_index (suc n) (byte_of_digits (c ∷ d ∷ s)) ≡ (value_of c * 16 + value_of d) ∷ by_index n (byte_of_digits s)
bytes_in_turn c d s n =
    by_front n (byte_of_digits (c ∷ d ∷ s))
    ∙ ap (λ bytes. (value_of c * 16 + value_of d) ∷ bytes) (by_index_cong n _ _ (λ i within. next_byte c d s i))

text_from : (n : ℕ) (s : List ℕ) → length s ≡ 2 * n → list_all is_hex_digit s ≡ true
    → IsHexText s (by_index n (byte_of_digits s))
unfolding by_index
text_from zero [] long h = nothing
text_from zero (c ∷ s) long h = absurd (omega (arith, long))
text_from (suc n) [] long h = absurd (omega (arith, long))
text_from (suc n) (c ∷ []) long h = absurd (omega (arith, long))
text_from (suc n) (c ∷ d ∷ s) long h =
    let first = and_parts (is_hex_digit c) (list_all is_hex_digit (d ∷ s)) h in
    let second = and_parts (is_hex_digit d) (list_all is_hex_digit s) first.1 in
    let rest = text_from n s (omega (arith, long)) second.1 in
    subst (IsHexText (c ∷ d ∷ s)) (sym (bytes_in_turn c d s n))
    (digit_pair (value_of c) (value_of d) c d s (by_index n (byte_of_digits s)) (digit_from c first.0)
    (digit_from d second.0) rest)

text_to : {s bytes : List ℕ} → IsHexText s bytes
    → (list_all is_hex_digit s ≡ true) × (by_index (length bytes) (byte_of_digits s) ≡ bytes)
unfolding by_index
text_to nothing = (refl, refl)
text_to (digit_pair high low c d s bytes first second rest) =
    let a = digit_to high c first in
    let b = digit_to low d second in
    let others = text_to rest in
    (rw (a.0, b.0, others.0) refl, bytes_in_turn c d s (length bytes) ∙ rw (a.1, b.1, others.1) refl)

guarded : (b : Bool) (o : Option (List ℕ)) (id : List ℕ) → cond b o None ≡ Some id → (b ≡ true) × (o ≡ Some id)
guarded true o id h = (refl, h)
guarded false o id h = absurd cc

un_some : (x y : List ℕ) → Some x ≡ Some y → x ≡ y
un_some x y h = cc

digits_from : (s id : List ℕ) → parsed_simple s ≡ Some id → AreUuidDigits s id
digits_from s id h =
    let g = guarded _ _ id h in
    let p = and_parts _ _ g.0 in
    let is = text_from 16 s (eqb-true (length s) 32 p.0) p.1 in
    let same : by_index 16 (byte_of_digits s) ≡ id = un_some _ id g.1 in
    (subst (IsHexText s) same is, ap length (sym same) ∙ by_index_length 16 (byte_of_digits s))

digits_long : (s id : List ℕ) → AreUuidDigits s id → length s ≡ 32
digits_long s id is = omega (arith, twice is.0, is.1)

digits_to : (s id : List ℕ) → AreUuidDigits s id → parsed_simple s ≡ Some id
digits_to s id is =
    let read = text_to is.0 in
    let same : by_index 16 (byte_of_digits s) ≡ id = rw is.1 at read.1 in
    rw (digits_long s id is, read.0) (ap Some same)

-- ---- hyphens

by_places : (s : List ℕ) (n : ℕ) → length s ≡ n → s ≡ by_index n (slice_index s)
by_places s n long = by_index_same s n (slice_index s) long
    (λ k d within. get_or_default s k d 0 (omega (arith, long, within)))

grouped : (s : List ℕ) → length s ≡ 36 → has_hyphens s ≡ true → s ≡ with_hyphens (digits_of s)
unfolding by_index
grouped s long h =
    let a = and_parts _ _ h in
    let b = and_parts _ _ a.0 in
    let c = and_parts _ _ b.0 in
    let places = by_places s 36 long in
    let at_8 = eqb-true (slice_index s 8) 45 c.0 in
    let at_13 = eqb-true (slice_index s 13) 45 c.1 in
    let at_18 = eqb-true (slice_index s 18) 45 b.1 in
    let at_23 = eqb-true (slice_index s 23) 45 a.1 in
    places ∙ rw (at_8, at_13, at_18, at_23) refl

abbrev IsSpelled : List ℕ → Type 0
IsSpelled digits = (length (with_hyphens digits) ≡ 36) × (has_hyphens (with_hyphens digits) ≡ true)
    × (digits_of (with_hyphens digits) ≡ digits)

each_spelled : (f : ℕ → ℕ) → IsSpelled (by_index 32 f)
unfolding by_index
each_spelled f = (refl, refl, refl)

spelled : (digits : List ℕ) → length digits ≡ 32 → IsSpelled digits
spelled digits long = subst IsSpelled (sym (by_places digits 32 long)) (each_spelled (slice_index digits))

pub hyphenated_from : (s id : List ℕ) → parsed_hyphenated s ≡ Some id → IsHyphenatedText s id
hyphenated_from s id h =
    let g = guarded _ _ id h in
    let p = and_parts _ _ g.0 in
    (digits_of s, digits_from (digits_of s) id g.1, grouped s (eqb-true (length s) 36 p.0) p.1)

hyphenated_long : (s id : List ℕ) → IsHyphenatedText s id → length s ≡ 36
hyphenated_long s id is = ap length is.2 ∙ (spelled is.0 (digits_long is.0 id is.1)).0

pub hyphenated_to : (s id : List ℕ) → IsHyphenatedText s id → parsed_hyphenated s ≡ Some id
hyphenated_to s id is =
    let parts = spelled is.0 (digits_long is.0 id is.1) in
    let read : parsed_hyphenated (with_hyphens is.0) ≡ Some id = rw (parts.0, parts.1, parts.2) (digits_to is.0 id is.1) in
    ap parsed_hyphenated is.2 ∙ read

-- ---- braces

in_braces : (s : List ℕ) → length s ≡ 38 → slice_index s 0 ≡ 123 → slice_index s 37 ≡ 125
    → s ≡ codes "{" ++ take 36 (drop 1 s) ++ codes "}"
unfolding by_index
in_braces s long first last =
    let places = by_places s 38 long in
    let inner : codes "{" ++ take 36 (drop 1 (by_index 38 (slice_index s))) ++ codes "}" ≡ codes "{"
    ++ take 36 (drop 1 s) ++ codes "}" =
    ap (λ t. codes "{" ++ take 36 (drop 1 t) ++ codes "}") (sym places) in
    let outer : by_index 38 (slice_index s) ≡ codes "{" ++ take 36 (drop 1 (by_index 38 (slice_index s))) ++ codes "}" =
    rw (first, last) refl in
    places ∙ outer ∙ inner

braced_from : (s id : List ℕ) → parsed_braced s ≡ Some id → IsUuidText s id
braced_from s id h =
    let g = guarded _ _ id h in
    let p = and_parts _ _ g.0 in
    let q = and_parts _ _ p.0 in
    let whole = in_braces s (eqb-true (length s) 38 q.0) (eqb-true (slice_index s 0) 123 q.1)
    (eqb-true (slice_index s 37) 125 p.1) in
    subst (λ t. IsUuidText t id) (sym whole) (braced (take 36 (drop 1 s)) id (hyphenated_from _ id g.1))

at_38 : (s : List ℕ) → length s ≡ 38 → slice_index s 0 ≡ 123 → slice_index s 37 ≡ 125
    → parsed s ≡ parsed_hyphenated (take 36 (drop 1 s))
at_38 s long first last = rw (long, first, last) refl

braced_to : (t id : List ℕ) → IsHyphenatedText t id → parsed (codes "{" ++ t ++ codes "}") ≡ Some id
braced_to t id is =
    let size = hyphenated_long t id is in
    let s = codes "{" ++ t ++ codes "}" in
    let long : length s ≡ 38 = omega (arith, length-append t (125 ∷ []), size) in
    let last : slice_index s 37 ≡ 125 = get_or_push t 125 0 36 size in
    let inner : take 36 (drop 1 s) ≡ t = take_at t (125 ∷ []) 36 size in
    at_38 s long refl last ∙ ap parsed_hyphenated inner ∙ hyphenated_to t id is

-- ---- URNs

urn_from : (s id : List ℕ) → parsed_urn s ≡ Some id → IsUuidText s id
urn_from s id h =
    let g = guarded _ _ id h in
    let p = and_parts _ _ g.0 in
    let prefix : IsUrnPrefix (take 9 s) =
    (bytes_eq-Decides (str_to_ascii_lowercase (take 9 s)) (codes "urn:uuid:")).0 p.1 in
    subst (λ t. IsUuidText t id) (take-append-drop 9 s)
    (urn (take 9 s) (drop 9 s) id prefix (hyphenated_from (drop 9 s) id g.1))

at_45 : (s : List ℕ) → length s ≡ 45 → has_urn_prefix s ≡ true → parsed s ≡ parsed_hyphenated (drop 9 s)
at_45 s long prefix = rw (long, prefix) refl

urn_to : (p t id : List ℕ) → IsUrnPrefix p → IsHyphenatedText t id → parsed (p ++ t) ≡ Some id
urn_to p t id prefix is =
    let nine : length p ≡ 9 = sym (length-map p _) ∙ ap length prefix in
    let long : length (p ++ t) ≡ 45 = omega (arith, length-append p t, hyphenated_long t id is, nine) in
    let opens : has_urn_prefix (p ++ t) ≡ true =
    rw (take_at p t 9 nine) ((bytes_eq-Decides (str_to_ascii_lowercase p) (codes "urn:uuid:")).1 prefix) in
    at_45 (p ++ t) long opens ∙ ap parsed_hyphenated (drop_at p t 9 nine) ∙ hyphenated_to t id is

-- ---- all spellings

spelling_from : (a b c d : Bool) (s id : List ℕ)
    → cond a (parsed_simple s) (cond b (parsed_hyphenated s) (cond c (parsed_braced s) (cond d (parsed_urn s) None)))
    ≡ Some id
    → IsUuidText s id
spelling_from true b c d s id h = digits_alone s id (digits_from s id h)
spelling_from false true c d s id h = hyphenated s id (hyphenated_from s id h)
spelling_from false false true d s id h = braced_from s id h
spelling_from false false false true s id h = urn_from s id h
spelling_from false false false false s id h = absurd cc

pub parsed_from : (s id : List ℕ) → parsed s ≡ Some id → IsUuidText s id
parsed_from s id h = spelling_from _ _ _ _ s id h

at_32 : (s : List ℕ) → length s ≡ 32 → parsed s ≡ parsed_simple s
at_32 s long = rw long refl

at_36 : (s : List ℕ) → length s ≡ 36 → parsed s ≡ parsed_hyphenated s
at_36 s long = rw long refl

pub parsed_to : {s id : List ℕ} → IsUuidText s id → parsed s ≡ Some id
parsed_to (digits_alone s id is) = at_32 s (digits_long s id is) ∙ digits_to s id is
parsed_to (hyphenated s id is) = at_36 s (hyphenated_long s id is) ∙ hyphenated_to s id is
parsed_to (braced t id is) = braced_to t id is
parsed_to (urn p t id prefix is) = urn_to p t id prefix is

-- no other spelling has 36 bytes
pub long_is_hyphenated : (s id : List ℕ) → length s ≡ 36 → IsUuidText s id → IsHyphenatedText s id
long_is_hyphenated s id long is = hyphenated_from s id (sym (at_36 s long) ∙ parsed_to is)
