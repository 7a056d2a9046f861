-- What a part that was read took from the front, and that a part in the grammar is read.
use Rattle.std.proofs.Common.{◌≡◌, ℕ, zero, suc, ◌+◌, ◌-◌, ◌^◌, ◌<◌, ◌≤◌, Bool, true, false, cond, ltb, eqb, List, []}
use Rattle.std.proofs.Common.{◌∷◌, ◌++◌, length, get_or, take, drop, Option, Some, None, Result, Ok, Err, refl, sym}
use Rattle.std.proofs.Common.{ap, subst, ◌∙◌, append_assoc, arith, inl, inr, ◌⊎◌}
use Rattle.std.specs.Prelude.{option_map}
use Rattle.std.specs.Int.{Width, w32, w64, byte_len, from_le_bytes, to_le_bytes}
use Rattle.std.specs.Str.{is_utf8, IsUtf8}
use Rattle.std.proofs.lemmas.Str.{IsUtf8-from_is_utf8}
use Rattle.std.proofs.lemmas.Bool.{cases_lt, ltb-true, ltb-false, le-ltb, lt-ltb, eqb-true, eqb-false, ne_eqb}
use Rattle.std.proofs.lemmas.Bool.{false_from_ne_true}
use Rattle.std.proofs.lemmas.List.{take_at, drop_at, take-append-drop, length-append, length-take, get_or-drop}
use Rattle.std.proofs.lemmas.List.{get_or-take, get_or_past}
use Rattle.std.proofs.lemmas.Nat.{le_bytes_4, le_bytes_8, from_le_bytes-to_le_bytes_4, from_le_bytes-to_le_bytes_8}
use Rattle.bson_bytes.specs.declared.fault.Fault.{Fault}
use Rattle.bson_bytes.specs.declared.fault.FaultKind.{FaultKind}
use Rattle.bson_bytes.specs.declared.fault.FaultKind.TheVariants.{Short, Length, Utf8, End}
use Rattle.bson_bytes.specs.Fault.{fault_at, ◌>>=◌, some_or_fault}
use Rattle.bson_bytes.specs.Grammar.{little_endian, IsName, HasNoNulByte}
use Rattle.bson_bytes.specs.Reading.{read_byte, read_bytes, read_integer, read_length, read_nul, split_at_nul, prepend_byte, check_utf8}
use Rattle.bson_bytes.specs.Reading.{read_name, read_string}

-- ---- bytes

abbrev pub IsBytes : List ℕ → Type 0
IsBytes bytes = (i : ℕ) → get_or bytes i 0 < 256

pub IsBytes-drop : (n : ℕ) (bytes : List ℕ) → IsBytes bytes → IsBytes (drop n bytes)
IsBytes-drop n bytes h i = rw get_or-drop (h (n + i))

pub IsBytes-take : (n : ℕ) (bytes : List ℕ) → IsBytes bytes → IsBytes (take n bytes)
IsBytes-take n bytes h i =
    elim (cases_lt i n) [
      | inl lt ↦ rw (get_or-take n bytes i 0 lt) (h i)
      | inr little_endian ↦ rw (get_or_past (take n bytes) i 0 (omega (arith, length-take n bytes))) (omega arith)
    ]

pub IsBytes-rest : (b : ℕ) (bytes : List ℕ) → IsBytes (b ∷ bytes) → IsBytes bytes
IsBytes-rest b bytes h i = h (suc i)

-- ---- steps

-- the value of a step that did not fail
pub bind_ok : {A B : Type 0} (r : Result A Fault) (f : A → Result B Fault) (y : B) → (r >>= f) ≡ Ok y → (x : A) × (r ≡ Ok x) × (f x ≡ Ok y)
bind_ok (Ok x) f y e = (x, refl, e)
bind_ok (Err d) f y e = absurd cc

-- tests that did not fail
pub unless_ok : {A : Type 0} (b : Bool) (d : Fault) (r : Result A Fault) (y : A) → cond b (Err d) r ≡ Ok y → (b ≡ false) × (r ≡ Ok y)
unless_ok true d r y e = absurd cc
unless_ok false d r y e = (refl, e)

pub if_ok : {A : Type 0} (b : Bool) (r : Result A Fault) (d : Fault) (y : A) → cond b r (Err d) ≡ Ok y → (b ≡ true) × (r ≡ Ok y)
if_ok true r d y e = (refl, e)
if_ok false r d y e = absurd cc

pub chosen : {A : Type 0} (b : Bool) (x y z : A) → cond b x y ≡ z → ((b ≡ true) × (x ≡ z)) ⊎ ((b ≡ false) × (y ≡ z))
chosen true x y z e = inl (refl, e)
chosen false x y z e = inr (refl, e)

abbrev done : {A : Type 0} → A → Result A Fault
done x = Ok x

pub ok_is : {A : Type 0} (x y : A) → done x ≡ done y → x ≡ y
ok_is x y e = cc

pub or_fault_ok : {A : Type 0} (o : Option A) (w : FaultKind) (bytes : List ℕ) (x : A) → some_or_fault o w bytes ≡ Ok x → o ≡ Some x
or_fault_ok (Some y) w bytes x e = ap Some (ok_is y x e)
or_fault_ok None w bytes x e = absurd cc

-- ---- what a reader took from the front

pub record Takes {A : Type 0} (W : List ℕ → A → Type 0) (bytes : List ℕ) (x : A) (rest : List ℕ) : Type 0 where
  pub front : List ℕ
  pub spelled : W front x
  pub parts : bytes ≡ front ++ rest
  pub rest_bytes : IsBytes rest

-- ---- numbers

pub record IsWide (w : Width) (limit : ℕ) : Type 0 where
  pub len : (n : ℕ) → length (to_le_bytes w n) ≡ byte_len w
  pub back : (bytes : List ℕ) → length bytes ≡ byte_len w → IsBytes bytes → to_le_bytes w (from_le_bytes w bytes) ≡ bytes
  pub again : (n : ℕ) → n < limit → from_le_bytes w (to_le_bytes w n) ≡ n
  pub below : (bytes : List ℕ) → IsBytes bytes → from_le_bytes w bytes < limit

pub wide32 : IsWide w32 (2 ^ 32)
wide32 = record {
  len = λ n. refl;
  back = λ bytes len fits. le_bytes_4 bytes _ len fits refl;
  again = λ n lt. from_le_bytes-to_le_bytes_4 n lt;
  below = λ bytes fits. omega (arith, fits 0, fits 1, fits 2, fits 3);
}

pub wide64 : IsWide w64 (2 ^ 64)
wide64 = record {
  len = λ n. refl;
  back = λ bytes len fits. le_bytes_8 bytes _ len fits refl;
  again = λ n lt. from_le_bytes-to_le_bytes_8 n lt;
  below = λ bytes fits. omega (arith, fits 0, fits 1, fits 2, fits 3, fits 4, fits 5, fits 6, fits 7);
}

pub length-little_endian : (w : Width) (limit : ℕ) → IsWide w limit → (n : ℕ) → length (little_endian w n) ≡ byte_len w
unfolding little_endian
length-little_endian w limit wide n = wide.len n

-- the bytes of the number, which is in range
abbrev pub IsNumber : Width → ℕ → List ℕ → ℕ → Type 0
IsNumber w limit front n = (front ≡ little_endian w n) × (n < limit)

pub number_takes : (w : Width) (limit : ℕ) → IsWide w limit → (bytes : List ℕ) (n : ℕ) (rest : List ℕ) → IsBytes bytes → read_integer w bytes ≡ Ok (n, rest) → Takes (IsNumber w limit) bytes n rest
unfolding little_endian
number_takes w limit wide bytes n rest fits e =
    let g = unless_ok (ltb (length bytes) (byte_len w)) (fault_at Short bytes) (Ok (from_le_bytes w (take (byte_len w) bytes), drop (byte_len w) bytes)) (n, rest) e in
    let long : byte_len w ≤ length bytes = ltb-false _ _ g.0 in
    let same = ok_is (from_le_bytes w (take (byte_len w) bytes), drop (byte_len w) bytes) (n, rest) g.1 in
    let n-is : from_le_bytes w (take (byte_len w) bytes) ≡ n = ap (λ (p : ℕ × List ℕ). p.0) same in
    let rest-is : drop (byte_len w) bytes ≡ rest = ap (λ (p : ℕ × List ℕ). p.1) same in
    let front : to_le_bytes w n ≡ take (byte_len w) bytes = rw (← n-is) (wide.back (take (byte_len w) bytes) (omega (arith, length-take (byte_len w) bytes)) (IsBytes-take (byte_len w) bytes fits)) in
    record {
      front = take (byte_len w) bytes;
      spelled = (sym front, rw (← n-is) (wide.below (take (byte_len w) bytes) (IsBytes-take (byte_len w) bytes fits)));
      parts = rw (← rest-is) (sym (take-append-drop (byte_len w) bytes));
      rest_bytes = rw (← rest-is) (IsBytes-drop (byte_len w) bytes fits);
    }

pub number_again : (w : Width) (limit : ℕ) → IsWide w limit → (n : ℕ) (rest : List ℕ) → n < limit → read_integer w (little_endian w n ++ rest) ≡ Ok (n, rest)
unfolding little_endian
number_again w limit wide n rest lt =
    let len = wide.len n in
    let long : ltb (length (to_le_bytes w n ++ rest)) (byte_len w) ≡ false = le-ltb _ _ (omega (arith, length-append (to_le_bytes w n) rest)) in
    rw (long, take_at (to_le_bytes w n) rest (byte_len w) len, drop_at (to_le_bytes w n) rest (byte_len w) len, wide.again n lt) refl

-- ---- a length

pub size_takes : (bytes : List ℕ) (n : ℕ) (rest : List ℕ) → IsBytes bytes → read_length bytes ≡ Ok (n, rest) → Takes (IsNumber w32 (2 ^ 31)) bytes n rest
unfolding read_length
size_takes bytes n rest fits e =
    let b = bind_ok (read_integer w32 bytes) (λ n. cond (ltb n.0 (2 ^ 31)) (Ok n) (Err (fault_at Length bytes))) (n, rest) e in
    let g = if_ok (ltb b.0.0 (2 ^ 31)) (Ok b.0) (fault_at Length bytes) (n, rest) b.2 in
    let small : b.0.0 < 2 ^ 31 = ltb-true _ _ g.0 in
    let t = number_takes w32 (2 ^ 32) wide32 bytes b.0.0 b.0.1 fits b.1 in
    let made : Takes (IsNumber w32 (2 ^ 31)) bytes b.0.0 b.0.1 = record { front = t.front; spelled = (t.spelled.0, small); parts = t.parts; rest_bytes = t.rest_bytes } in
    subst (λ (p : ℕ × List ℕ). Takes (IsNumber w32 (2 ^ 31)) bytes p.0 p.1) (ok_is b.0 (n, rest) g.1) made

pub size_again : (n : ℕ) (rest : List ℕ) → n < 2 ^ 31 → read_length (little_endian w32 n ++ rest) ≡ Ok (n, rest)
unfolding read_length
size_again n rest lt = rw (number_again w32 (2 ^ 32) wide32 n rest (omega arith), lt-ltb n (2 ^ 31) lt) refl

-- ---- bytes of a count

pub bytes_takes : (n : ℕ) (bytes s rest : List ℕ) → IsBytes bytes → read_bytes n bytes ≡ Ok (s, rest) → Takes (λ front x. (front ≡ x) × (length x ≡ n)) bytes s rest
bytes_takes n bytes s rest fits e =
    let g = unless_ok (ltb (length bytes) n) (fault_at Short bytes) (Ok (take n bytes, drop n bytes)) (s, rest) e in
    let long : n ≤ length bytes = ltb-false _ _ g.0 in
    let made : Takes (λ front x. (front ≡ x) × (length x ≡ n)) bytes (take n bytes) (drop n bytes) = record { front = take n bytes; spelled = (refl, omega (arith, length-take n bytes)); parts = sym (take-append-drop n bytes); rest_bytes = IsBytes-drop n bytes fits } in
    subst (λ (p : List ℕ × List ℕ). Takes (λ front x. (front ≡ x) × (length x ≡ n)) bytes p.0 p.1) (ok_is (take n bytes, drop n bytes) (s, rest) g.1) made

pub bytes_again : (s rest : List ℕ) → read_bytes (length s) (s ++ rest) ≡ Ok (s, rest)
bytes_again s rest =
    let long : ltb (length (s ++ rest)) (length s) ≡ false = le-ltb _ _ (omega (arith, length-append s rest)) in
    rw (long, take_at s rest (length s) refl, drop_at s rest (length s) refl) refl

-- ---- a byte

pub byte_takes : (bytes : List ℕ) (b : ℕ) (rest : List ℕ) → read_byte bytes ≡ Ok (b, rest) → bytes ≡ b ∷ rest
byte_takes [] b rest e = absurd cc
byte_takes (c ∷ bytes) b rest e = ap (λ (p : ℕ × List ℕ). p.0 ∷ p.1) (ok_is (c, bytes) (b, rest) e)

pub zero_takes : (bytes rest : List ℕ) → read_nul bytes ≡ Ok rest → bytes ≡ 0 ∷ rest
zero_takes [] rest e = absurd cc
zero_takes (b ∷ bytes) rest e =
    let g = if_ok (eqb b 0) (Ok bytes) (fault_at End (b ∷ bytes)) rest e in
    rw (eqb-true b 0 g.0, ok_is bytes rest g.1) refl

-- ---- UTF-8

pub utf8_takes : (s bytes t : List ℕ) → check_utf8 s bytes ≡ Ok t → (s ≡ t) × (is_utf8 t ≡ true)
utf8_takes s bytes t e =
    let g = if_ok (is_utf8 s) (Ok s) (fault_at Utf8 bytes) t e in
    let same = ok_is s t g.1 in
    (same, rw (← same) g.0)

pub utf8_again : (s bytes : List ℕ) → is_utf8 s ≡ true → check_utf8 s bytes ≡ Ok s
utf8_again s bytes h = rw h refl

pub utf8_refused : (s bytes : List ℕ) → (IsUtf8 s → ⊥) → check_utf8 s bytes ≡ Err (fault_at Utf8 bytes)
utf8_refused s bytes n = rw (false_from_ne_true (is_utf8 s) (λ h. n (IsUtf8-from_is_utf8 s h))) refl

-- ---- names

-- the text is the front, with no 0, and after it the 0 is
abbrev pub Splits : List ℕ → List ℕ → List ℕ → Type 0
Splits bytes k rest = HasNoNulByte k × (bytes ≡ k ++ 0 ∷ rest)

-- one byte more, where the rest splits
split_more : (b : ℕ) (bytes k rest : List ℕ) (o : Option (List ℕ × List ℕ)) → (b ≡ 0 → ⊥)
    → ((j r : List ℕ) → o ≡ Some (j, r) → Splits bytes j r)
    → option_map (prepend_byte b) o ≡ Some (k, rest) → Splits (b ∷ bytes) k rest
split_more b bytes k rest None n f e = absurd cc
split_more b bytes k rest (Some p) n f e =
    let h = f p.0 p.1 refl in
    let same : ◌≡◌ {A = List ℕ × List ℕ} (b ∷ p.0, p.1) (k, rest) = cc in
    subst (λ (q : List ℕ × List ℕ). Splits (b ∷ bytes) q.0 q.1) same ((n, h.0), ap (λ (x : List ℕ). b ∷ x) h.1)

pub split_takes : (bytes k rest : List ℕ) → split_at_nul bytes ≡ Some (k, rest) → Splits bytes k rest
split_takes [] k rest e = absurd cc
split_takes (b ∷ bytes) k rest e =
    elim (chosen (eqb b 0) (Some ([], bytes)) (option_map (prepend_byte b) (split_at_nul bytes)) (Some (k, rest)) e) [
      | inl z ↦
          let same : ◌≡◌ {A = List ℕ × List ℕ} ([], bytes) (k, rest) = cc in
          subst (λ (p : List ℕ × List ℕ). Splits (b ∷ bytes) p.0 p.1) same (tt, rw (eqb-true b 0 z.0) refl)
      | inr n ↦ split_more b bytes k rest (split_at_nul bytes) (eqb-false b 0 n.0) (λ j r h. split_takes bytes j r h) n.1
    ]

pub split_again : (k rest : List ℕ) → HasNoNulByte k → split_at_nul (k ++ 0 ∷ rest) ≡ Some (k, rest)
split_again [] rest h = refl
split_again (b ∷ k) rest h = rw (ne_eqb b 0 h.0, split_again k rest h.1) refl

pub name_takes : (bytes k rest : List ℕ) → read_name bytes ≡ Ok (k, rest) → IsName k × (bytes ≡ k ++ 0 ∷ rest)
unfolding read_name
name_takes bytes k rest e =
    let b = bind_ok (some_or_fault (split_at_nul bytes) Short bytes) (λ p. check_utf8 p.0 bytes >>= λ s. Ok (s, p.1)) (k, rest) e in
    let c = bind_ok (check_utf8 b.0.0 bytes) (λ s. Ok (s, b.0.1)) (k, rest) b.2 in
    let u = utf8_takes b.0.0 bytes c.0 c.1 in
    let t = split_takes bytes b.0.0 b.0.1 (or_fault_ok (split_at_nul bytes) Short bytes b.0 b.1) in
    let made : IsName c.0 × (bytes ≡ c.0 ++ 0 ∷ b.0.1) = (record { utf8 = u.1; no_zero = rw (← u.0) t.0 }, rw (← u.0) t.1) in
    subst (λ (p : List ℕ × List ℕ). IsName p.0 × (bytes ≡ p.0 ++ 0 ∷ p.1)) (ok_is (c.0, b.0.1) (k, rest) c.2) made

pub name_again : (k rest : List ℕ) → IsName k → read_name (k ++ 0 ∷ rest) ≡ Ok (k, rest)
unfolding read_name
name_again k rest h = rw (split_again k rest h.no_zero, utf8_again k (k ++ 0 ∷ rest) h.utf8) refl

-- ---- texts

pub regroup : (a s rest : List ℕ) → a ++ (s ++ 0 ∷ rest) ≡ (a ++ (s ++ 0 ∷ [])) ++ rest
regroup a s rest = simp append_assoc

absurd_or : (n m : ℕ) → (n ≡ 0 → ⊥) → m ≡ n - 1 → n ≡ m + 1
absurd_or zero m h e = absurd (h refl)
absurd_or (suc n) m h e = omega arith

abbrev pub IsTextBytes : List ℕ → List ℕ → Type 0
IsTextBytes front s = (front ≡ little_endian w32 (length s + 1) ++ (s ++ 0 ∷ [])) × (is_utf8 s ≡ true) × (length s + 1 < 2 ^ 31)

pub text_takes : (bytes s rest : List ℕ) → IsBytes bytes → read_string bytes ≡ Ok (s, rest) → Takes IsTextBytes bytes s rest
unfolding read_string
text_takes bytes s rest fits e =
    let b = bind_ok (read_length bytes) (λ n. cond (eqb n.0 0) (Err (fault_at Length bytes)) (read_bytes (n.0 - 1) n.1 >>= λ s. read_nul s.1 >>= λ rest. check_utf8 s.0 n.1 >>= λ t. Ok (t, rest))) (s, rest) e in
    let n = b.0 in
    let g = unless_ok (eqb n.0 0) (fault_at Length bytes) (read_bytes (n.0 - 1) n.1 >>= λ s. read_nul s.1 >>= λ rest. check_utf8 s.0 n.1 >>= λ t. Ok (t, rest)) (s, rest) b.2 in
    let some = eqb-false n.0 0 g.0 in
    let c = bind_ok (read_bytes (n.0 - 1) n.1) (λ s. read_nul s.1 >>= λ rest. check_utf8 s.0 n.1 >>= λ t. Ok (t, rest)) (s, rest) g.1 in
    let d = bind_ok (read_nul c.0.1) (λ rest. check_utf8 c.0.0 n.1 >>= λ t. Ok (t, rest)) (s, rest) c.2 in
    let u = bind_ok (check_utf8 c.0.0 n.1) (λ t. Ok (t, d.0)) (s, rest) d.2 in
    let size = size_takes bytes n.0 n.1 fits b.1 in
    let text = bytes_takes (n.0 - 1) n.1 c.0.0 c.0.1 size.rest_bytes c.1 in
    let end = zero_takes c.0.1 d.0 d.1 in
    let utf8 = utf8_takes c.0.0 n.1 u.0 u.1 in
    let len : n.0 ≡ length c.0.0 + 1 = absurd_or n.0 (length c.0.0) some text.spelled.1 in
    let prepend_byte : n.1 ≡ c.0.0 ++ 0 ∷ d.0 = text.parts ∙ ap (λ (x : List ℕ). x ++ c.0.1) text.spelled.0 ∙ ap (λ (x : List ℕ). c.0.0 ++ x) end in
    let whole : bytes ≡ (little_endian w32 (length c.0.0 + 1) ++ (c.0.0 ++ 0 ∷ [])) ++ d.0 =
    size.parts ∙ ap (λ (x : List ℕ). x ++ n.1) size.spelled.0 ∙ ap (λ (k : ℕ). little_endian w32 k ++ n.1) len
    ∙ ap (λ (x : List ℕ). little_endian w32 (length c.0.0 + 1) ++ x) prepend_byte ∙ regroup (little_endian w32 (length c.0.0 + 1)) c.0.0 d.0 in
    let made : Takes IsTextBytes bytes c.0.0 d.0 = record {
      front = little_endian w32 (length c.0.0 + 1) ++ (c.0.0 ++ 0 ∷ []);
      spelled = (refl, rw utf8.0 utf8.1, omega (arith, size.spelled.1, len));
      parts = whole;
      rest_bytes = IsBytes-rest 0 d.0 (subst IsBytes end text.rest_bytes);
    } in
    subst (λ (p : List ℕ × List ℕ). Takes IsTextBytes bytes p.0 p.1) (ap (λ (x : List ℕ). (x, d.0)) utf8.0 ∙ ok_is (u.0, d.0) (s, rest) u.2) made

pub text_again : (s rest : List ℕ) → is_utf8 s ≡ true → length s + 1 < 2 ^ 31 → read_string ((little_endian w32 (length s + 1) ++ (s ++ 0 ∷ [])) ++ rest) ≡ Ok (s, rest)
unfolding read_string
text_again s rest utf8 lt =
    let some : eqb (length s + 1) 0 ≡ false = ne_eqb _ _ (λ e. omega arith) in
    let one : length s + 1 - 1 ≡ length s = omega arith in
    ap read_string (sym (regroup (little_endian w32 (length s + 1)) s rest))
    ∙ rw (size_again (length s + 1) (s ++ 0 ∷ rest) lt, some, one, bytes_again s (0 ∷ rest), utf8) refl

none_from : (b : ℕ) (o : Option (List ℕ × List ℕ)) → option_map (prepend_byte b) o ≡ None → o ≡ None
none_from b None e = refl
none_from b (Some p) e = absurd cc

-- a text whose bytes don't split has no 0
pub no_zero_from : (k : List ℕ) → split_at_nul k ≡ None → HasNoNulByte k
no_zero_from [] e = tt
no_zero_from (b ∷ k) e =
    elim (chosen (eqb b 0) (Some ([], k)) (option_map (prepend_byte b) (split_at_nul k)) None e) [
      | inl z ↦ absurd cc
      | inr n ↦ (eqb-false b 0 n.0, no_zero_from k (none_from b (split_at_nul k) n.1))
    ]

pub none_from_no_zero : (k : List ℕ) → HasNoNulByte k → split_at_nul k ≡ None
none_from_no_zero [] h = refl
none_from_no_zero (b ∷ k) h = rw (ne_eqb b 0 h.0, none_from_no_zero k h.1) refl
