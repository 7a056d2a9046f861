-- From the reader to the grammar: the characters of a string that was read.
use Rattle.std.proofs.Common.{◌≡◌, ℕ, ◌+◌, ◌-◌, ◌*◌, ◌<◌, true, false, cond, ◌&&◌, ◌||◌, ◌==◌, nat_lt, List, [], ◌∷◌, ◌++◌, Option, Some, None, option_and_then, sym, ap, ◌∙◌, subst, append_assoc, arith, inl, inr, ◌⊎◌}
use Rattle.std.proofs.lemmas.Bool.{cond_both, eqb-true, eqb-false, and_parts, or_cases, ltb-true, ltb-false, leb-true, both_ways, lt-ltb, le-leb, and_from}
use Rattle.std.specs.Char.{is_digit, digit_value, encode_utf8}
use Rattle.json.specs.Text.{Within, plain, after_backslash, after_u, after_high, content, prepend, code_unit, short_escape, is_high_surrogate, is_low_surrogate, surrogate_pair}
use Rattle.bson_json.specs.Grammar.{IsHex, hex_digit, hex_upper, hex_lower, IsCode, code, IsHighSurrogate, IsLowSurrogate}
use Rattle.bson_json.specs.Grammar.{IsChar, unescaped, quotation_mark, reverse_solidus, solidus, escaped_b, escaped_f, escaped_n, escaped_r, escaped_t, escaped_u, surrogates}
use Rattle.bson_json.specs.Grammar.{AreChars, no_chars, char}

-- ---- digits

abbrev Hex : ℕ → ℕ → Type 0
Hex x n = n < 16 → IsHex x n

hex : (x : ℕ) → Hex x (digit_value x)
hex x =
    cond_both (nat_lt x 48) 36 _ (Hex x) (λ e h. absurd (omega arith)) (λ e48.
    cond_both (nat_lt x 58) (x - 48) _ (Hex x)
    (λ e58 h. let d : 48 + (x - 48) ≡ x = omega (arith, ltb-false x 48 e48) in subst (λ y. IsHex y (x - 48)) d (hex_digit (omega (arith, ltb-true x 58 e58)))) (λ e58.
    cond_both (nat_lt x 65) 36 _ (Hex x) (λ e h. absurd (omega arith)) (λ e65.
    cond_both (nat_lt x 91) (x - 55) _ (Hex x)
    (λ e91 h.
    let low = ltb-false x 65 e65 in
    let d : 65 + (x - 65) ≡ x = omega (arith, low) in
    let v : 10 + (x - 65) ≡ x - 55 = omega (arith, low) in
    subst (λ y. IsHex x y) v (subst (λ y. IsHex y (10 + (x - 65))) d (hex_upper (omega (arith, low, h))))) (λ e91.
    cond_both (nat_lt x 97) 36 _ (Hex x) (λ e h. absurd (omega arith)) (λ e97.
    cond_both (nat_lt x 123) (x - 87) 36 (Hex x)
    (λ e123 h.
    let low = ltb-false x 97 e97 in
    let d : 97 + (x - 97) ≡ x = omega (arith, low) in
    let v : 10 + (x - 97) ≡ x - 87 = omega (arith, low) in
    subst (λ y. IsHex x y) v (subst (λ y. IsHex y (10 + (x - 97))) d (hex_lower (omega (arith, low, h))))) (λ e h. absurd (omega arith)))))))

hex_from : (x : ℕ) → is_digit x 16 ≡ true → IsHex x (digit_value x)
hex_from x e = hex x (ltb-true (digit_value x) 16 e)

abbrev CodeIf : ℕ → ℕ → ℕ → ℕ → Option ℕ → Type 0
CodeIf a b c d None = Unit {0}
CodeIf a b c d (Some u) = IsCode (a ∷ b ∷ c ∷ d ∷ []) u

code_if : (a b c d : ℕ) → CodeIf a b c d (code_unit a b c d)
unfolding code_unit
code_if a b c d =
    cond_both (is_digit a 16 && is_digit b 16 && is_digit c 16 && is_digit d 16) (Some (digit_value a * 4096 + digit_value b * 256 + digit_value c * 16 + digit_value d)) None (CodeIf a b c d)
    (λ e. let p = and_parts _ _ e in let q = and_parts _ _ p.0 in let r = and_parts _ _ q.0 in
    code (hex_from a r.0) (hex_from b r.1) (hex_from c q.1) (hex_from d p.1)) (λ e. tt)

-- ---- characters

-- what the bytes up to the closing quote spell, after those that were read of the character
abbrev Tail : Within → List ℕ → List ℕ → Type 0
Tail plain t s = AreChars t s
Tail after_backslash t s = AreChars (0x5C ∷ t) s
Tail after_u t s = AreChars (0x5C ∷ 0x75 ∷ t) s
Tail (after_high u) t s = (h : List ℕ) → IsCode h u → IsHighSurrogate u → AreChars (0x5C ∷ 0x75 ∷ (h ++ t)) s

-- the bytes up to the closing quote, and those after it
abbrev pub Found : (List ℕ → List ℕ → Type 0) → List ℕ → Option (List ℕ) → Type 0
Found P xs None = Unit {0}
Found P xs (Some s) = (t : List ℕ) × (r : List ℕ) × (xs ≡ t ++ 0x22 ∷ r) × P t s

onward : (P Q : List ℕ → List ℕ → Type 0) (front xs new : List ℕ) (o : Option (List ℕ)) → ((t s : List ℕ) → P t s → Q (front ++ t) (new ++ s)) → Found P xs o → Found Q (front ++ xs) (prepend new o)
onward P Q front xs new None f h = tt
onward P Q front xs new (Some s) f (t, r, e, h) = (front ++ t, r, ap (λ l. front ++ l) e ∙ sym (append_assoc front t (0x22 ∷ r)), f t s h)

further : (P Q : List ℕ → List ℕ → Type 0) (front xs : List ℕ) (o : Option (List ℕ)) → ((t s : List ℕ) → P t s → Q (front ++ t) s) → Found P xs o → Found Q (front ++ xs) o
further P Q front xs None f h = tt
further P Q front xs (Some s) f (t, r, e, h) = (front ++ t, r, ap (λ l. front ++ l) e ∙ sym (append_assoc front t (0x22 ∷ r)), f t s h)

abbrev Escaped : ℕ → List ℕ → Option (List ℕ) → Option ℕ → Type 0
Escaped x xs o c = Found (Tail after_backslash) (x ∷ xs) (option_and_then (λ y. prepend (y ∷ []) o) c)

escape : (x y c : ℕ) (xs : List ℕ) (o : Option (List ℕ)) → (x == y) ≡ true → IsChar (0x5C ∷ y ∷ []) (c ∷ []) → Found AreChars xs o → Escaped x xs o (Some c)
escape x y c xs o e h k =
    subst (λ z. Escaped z xs o (Some c)) (sym (eqb-true x y e)) (onward AreChars (Tail after_backslash) (y ∷ []) xs (c ∷ []) o (λ t s. char h) k)

itself : (x y : ℕ) (xs : List ℕ) (o : Option (List ℕ)) → (x == y) ≡ true → IsChar (0x5C ∷ y ∷ []) (y ∷ []) → Found AreChars xs o → Escaped x xs o (Some x)
itself x y xs o e h k = subst (λ z. Escaped x xs o (Some z)) (sym (eqb-true x y e)) (escape x y y xs o e h k)

same_byte : (x : ℕ) (xs : List ℕ) (o : Option (List ℕ)) → Found AreChars xs o → ((x == 34) || (x == 92) || (x == 47)) ≡ true → Escaped x xs o (Some x)
same_byte x xs o k e = go (or_cases _ _ e)
  where
    first : ((x == 34) ≡ true) ⊎ ((x == 92) ≡ true) → Escaped x xs o (Some x)
    first (inl f) = itself x 34 xs o f quotation_mark k
    first (inr f) = itself x 92 xs o f reverse_solidus k

    go : (((x == 34) || (x == 92)) ≡ true) ⊎ ((x == 47) ≡ true) → Escaped x xs o (Some x)
    go (inl f) = first (or_cases _ _ f)
    go (inr f) = itself x 47 xs o f solidus k

short : (x : ℕ) (xs : List ℕ) (o : Option (List ℕ)) → Found AreChars xs o → Escaped x xs o (short_escape x)
unfolding short_escape
short x xs o k =
    cond_both ((x == 34) || (x == 92) || (x == 47)) (Some x) _ (Escaped x xs o) (same_byte x xs o k) (λ e0.
    cond_both (x == 98) (Some 8) _ (Escaped x xs o) (λ e. escape x 98 8 xs o e escaped_b k) (λ e1.
    cond_both (x == 102) (Some 12) _ (Escaped x xs o) (λ e. escape x 102 12 xs o e escaped_f k) (λ e2.
    cond_both (x == 110) (Some 10) _ (Escaped x xs o) (λ e. escape x 110 10 xs o e escaped_n k) (λ e3.
    cond_both (x == 114) (Some 13) _ (Escaped x xs o) (λ e. escape x 114 13 xs o e escaped_r k) (λ e4.
    cond_both (x == 116) (Some 9) None (Escaped x xs o) (λ e. escape x 116 9 xs o e escaped_t k) (λ e5. tt))))))

high_from : (u : ℕ) → is_high_surrogate u ≡ true → IsHighSurrogate u
high_from u e = let p = and_parts _ _ e in (leb-true 0xd800 u p.0, ltb-true u 0xdc00 p.1)

low_from : (u : ℕ) → is_low_surrogate u ≡ true → IsLowSurrogate u
low_from u e = let p = and_parts _ _ e in (leb-true 0xdc00 u p.0, ltb-true u 0xe000 p.1)

not_high : (u : ℕ) → is_high_surrogate u ≡ false → ¬ (IsHighSurrogate u)
not_high u e h = both_ways _ e (and_from _ _ (le-leb 0xd800 u h.0) (lt-ltb u 0xdc00 h.1))

not_low : (u : ℕ) → is_low_surrogate u ≡ false → ¬ (IsLowSurrogate u)
not_low u e h = both_ways _ e (and_from _ _ (le-leb 0xdc00 u h.0) (lt-ltb u 0xe000 h.1))

four : (a b c d : ℕ) (xs : List ℕ) (o : Option ℕ) → CodeIf a b c d o → ((u : ℕ) → Found (Tail (after_high u)) xs (content (after_high u) xs)) → Found AreChars xs (content plain xs)
    → Found (Tail after_u) (a ∷ b ∷ c ∷ d ∷ xs)
    (option_and_then (λ u. cond (is_high_surrogate u) (content (after_high u) xs) (cond (is_low_surrogate u) None (prepend (encode_utf8 u) (content plain xs)))) o)
four a b c d xs None is again k = tt
four a b c d xs (Some u) is again k =
    let digits = a ∷ b ∷ c ∷ d ∷ [] in
    let Q = Found (Tail after_u) (digits ++ xs) in
    cond_both (is_high_surrogate u) (content (after_high u) xs) _ Q
    (λ e. further (Tail (after_high u)) (Tail after_u) digits xs _ (λ t s h. h digits is (high_from u e)) (again u)) (λ high.
    cond_both (is_low_surrogate u) None (prepend (encode_utf8 u) (content plain xs)) Q (λ e. tt)
    (λ low. onward AreChars (Tail after_u) digits xs (encode_utf8 u) _ (λ t s. char (escaped_u is (not_high u high) (not_low u low))) k))

abbrev after_low : ℕ → List ℕ → Option ℕ → Option (List ℕ)
after_low u xs o = option_and_then (λ l. cond (is_low_surrogate l) (prepend (encode_utf8 (surrogate_pair u l)) (content plain xs)) None) o

low : (u a b c d : ℕ) (xs : List ℕ) (o : Option ℕ) → CodeIf a b c d o → Found AreChars xs (content plain xs)
    → Found (Tail (after_high u)) (0x5C ∷ 0x75 ∷ a ∷ b ∷ c ∷ d ∷ xs) (after_low u xs o)
low u a b c d xs None is k = tt
low u a b c d xs (Some v) is k =
    let pair = 0x5C ∷ 0x75 ∷ a ∷ b ∷ c ∷ d ∷ [] in
    cond_both (is_low_surrogate v) (prepend (encode_utf8 (surrogate_pair u v)) (content plain xs)) None (Found (Tail (after_high u)) (pair ++ xs))
    (λ e. onward AreChars (Tail (after_high u)) pair xs (encode_utf8 (surrogate_pair u v)) _
    (λ t s rest h code_is high. subst (λ l. AreChars (0x5C ∷ 0x75 ∷ l) (encode_utf8 (surrogate_pair u v) ++ s)) (append_assoc h pair t) (char (surrogates code_is high is (low_from v e)) rest)) k)
    (λ e. tt)

pub found : (w : Within) (xs : List ℕ) → Found (Tail w) xs (content w xs)
unfolding content
found plain [] = tt
found plain (x ∷ xs) =
    cond_both (x == 34) (Some []) _ (Found AreChars (x ∷ xs)) (λ e. ([], xs, ap (λ y. y ∷ xs) (eqb-true x 34 e), no_chars)) (λ quote.
    cond_both (x == 92) (content after_backslash xs) _ (Found AreChars (x ∷ xs))
    (λ e. subst (λ y. Found AreChars (y ∷ xs) (content after_backslash xs)) (sym (eqb-true x 92 e))
    (further (Tail after_backslash) AreChars (92 ∷ []) xs _ (λ t s h. h) (found after_backslash xs))) (λ slash.
    cond_both (nat_lt x 32) None (prepend (x ∷ []) (content plain xs)) (Found AreChars (x ∷ xs)) (λ e. tt)
    (λ e. onward AreChars AreChars (x ∷ []) xs (x ∷ []) _ (λ t s. char (unescaped (ltb-false x 32 e, eqb-false x 34 quote, eqb-false x 92 slash))) (found plain xs))))
found after_backslash [] = tt
found after_backslash (x ∷ xs) =
    cond_both (x == 117) (content after_u xs) _ (Found (Tail after_backslash) (x ∷ xs))
    (λ e. subst (λ y. Found (Tail after_backslash) (y ∷ xs) (content after_u xs)) (sym (eqb-true x 117 e))
    (further (Tail after_u) (Tail after_backslash) (117 ∷ []) xs _ (λ t s h. h) (found after_u xs)))
    (λ e. short x xs (content plain xs) (found plain xs))
found after_u [] = tt
found after_u (a ∷ []) = tt
found after_u (a ∷ b ∷ []) = tt
found after_u (a ∷ b ∷ c ∷ []) = tt
found after_u (a ∷ b ∷ c ∷ d ∷ xs) = four a b c d xs (code_unit a b c d) (code_if a b c d) (λ u. found (after_high u) xs) (found plain xs)
found (after_high h) [] = tt
found (after_high h) (s ∷ []) = tt
found (after_high h) (s ∷ u ∷ []) = tt
found (after_high h) (s ∷ u ∷ a ∷ []) = tt
found (after_high h) (s ∷ u ∷ a ∷ b ∷ []) = tt
found (after_high h) (s ∷ u ∷ a ∷ b ∷ c ∷ []) = tt
found (after_high h) (s ∷ u ∷ a ∷ b ∷ c ∷ d ∷ xs) =
    let o = after_low h xs (code_unit a b c d) in
    cond_both ((s == 92) && (u == 117)) o None (Found (Tail (after_high h)) (s ∷ u ∷ a ∷ b ∷ c ∷ d ∷ xs))
    (λ e. let p = and_parts _ _ e in
    subst (λ y. Found (Tail (after_high h)) (y ∷ u ∷ a ∷ b ∷ c ∷ d ∷ xs) o) (sym (eqb-true s 92 p.0))
    (subst (λ y. Found (Tail (after_high h)) (92 ∷ y ∷ a ∷ b ∷ c ∷ d ∷ xs) o) (sym (eqb-true u 117 p.1)) (low h a b c d xs (code_unit a b c d) (code_if a b c d) (found plain xs))))
    (λ e. tt)

-- a string that was read, up to its closing quote
pub string_found : (xs : List ℕ) → Found AreChars xs (content plain xs)
string_found xs = found plain xs
