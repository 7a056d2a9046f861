-- Bytes are those of a vector if and only if some data in range has them.
use Rattle.std.proofs.Common.{◌≡◌, ◌<◌, ◌^◌, ◌%◌, ◌==◌, ◌&&◌, ◌||◌, ◌↔◌, ℕ, zero, suc, List, [], ◌∷◌, ◌++◌, length, map}
use Rattle.std.proofs.Common.{not, nat_lt, true, false, refl, ap, ap₂, inl, inr, arith, w8, w32}
use Rattle.std.specs.Int.{cast_signed, from_le_bytes, to_le_bytes}
use Rattle.std.specs.List.{AllByRecursion}
use Rattle.std.proofs.lemmas.Bool.{and_from, and_parts, cases_eq, eq-eqb, eqb-true, lt-ltb, ltb-true, ne_eqb}
use Rattle.std.proofs.lemmas.Bool.{not_from_false, or_cases, or_left}
use Rattle.std.proofs.lemmas.Nat.{le_bytes_4}
use Rattle.bson_types.specs.IgnoredBits.{ignored_bits}
use Rattle.bson_types.specs.ObjectIds.{IsBytes}
use Rattle.bson_types.specs.VectorBytes.{is_vector_bytes, u32_le_bytes}
use Rattle.bson_types.specs.VectorData.{VectorData, IsDataInRange, IsVectorBytes, data_bytes, int8, float32, packed}
use Rattle.bson_types.proofs.VectorLaws.{held_back, held_range, le_bytes_of-whole, words}

-- ---- data in range has bytes of a vector

no_bytes_no_padding : (bs : List ℕ) (k : ℕ) → (bs ≡ [] → k ≡ 0) → (not (length bs == 0) || (k == 0)) ≡ true
no_bytes_no_padding [] k none = eq-eqb k 0 (none refl)
no_bytes_no_padding (b ∷ bs) k none =
    let some : (length (b ∷ bs) == 0) ≡ false = ne_eqb (length (b ∷ bs)) 0 (λ e. omega (arith, e)) in
    or_left _ _ (not_from_false _ some)

accepted : (v : VectorData) → IsDataInRange v → is_vector_bytes (data_bytes v) ≡ true
accepted (int8 zs) range = refl
accepted (float32 ns) range = rw (le_bytes_of-whole ns) refl
accepted (packed bs k) range =
    and_from _ _ (and_from _ _ (lt-ltb k 8 range.0) (no_bytes_no_padding bs k range.1))
    (eq-eqb (ignored_bits bs k) 0 range.2)

-- ---- bytes of a vector have data in range

four_bytes : (a b c d : ℕ) (rest : List ℕ) → IsBytes (a ∷ b ∷ c ∷ d ∷ rest) → IsBytes (a ∷ b ∷ c ∷ d ∷ [])
four_bytes a b c d rest are zero = are 0
four_bytes a b c d rest are (suc zero) = are 1
four_bytes a b c d rest are (suc (suc zero)) = are 2
four_bytes a b c d rest are (suc (suc (suc zero))) = are 3
four_bytes a b c d rest are (suc (suc (suc (suc i)))) = omega arith

word_range : (a b c d : ℕ) → a < 256 → b < 256 → c < 256 → d < 256 → from_le_bytes w32 (a ∷ b ∷ c ∷ d ∷ []) < 2 ^ 32
word_range a b c d ha hb hc hd = omega arith

four_less : (a b c d : ℕ) (rest : List ℕ) → IsBytes (a ∷ b ∷ c ∷ d ∷ rest) → IsBytes rest
four_less a b c d rest are = λ i. are (suc (suc (suc (suc i))))

words_range : (bs : List ℕ) → IsBytes bs → AllByRecursion (λ n. n < 2 ^ 32) (words bs)
words_range (a ∷ b ∷ c ∷ d ∷ rest) are =
    (word_range a b c d (are 0) (are 1) (are 2) (are 3), words_range rest (four_less a b c d rest are))
words_range [] are = tt
words_range (a ∷ []) are = tt
words_range (a ∷ b ∷ []) are = tt
words_range (a ∷ b ∷ c ∷ []) are = tt

words_of : (bs : List ℕ) → IsBytes bs → length bs % 4 ≡ 0 → u32_le_bytes (words bs) ≡ bs
words_of (a ∷ b ∷ c ∷ d ∷ rest) are whole =
    let four = a ∷ b ∷ c ∷ d ∷ [] in
    let first : to_le_bytes w32 (from_le_bytes w32 four) ≡ four =
    le_bytes_4 four _ refl (four_bytes a b c d rest are) refl in
    let more : u32_le_bytes (words rest) ≡ rest = words_of rest (four_less a b c d rest are) (omega (arith, whole)) in
    ap₂ (λ xs ys. xs ++ ys) first more
words_of [] are whole = refl
words_of (a ∷ []) are whole = absurd (omega (arith, whole))
words_of (a ∷ b ∷ []) are whole = absurd (omega (arith, whole))
words_of (a ∷ b ∷ c ∷ []) are whole = absurd (omega (arith, whole))

packed_data : (k : ℕ) (bs : List ℕ) → is_vector_bytes (16 ∷ k ∷ bs) ≡ true → IsVectorBytes (16 ∷ k ∷ bs)
packed_data k bs is =
    let both = and_parts (nat_lt k 8 && (not (length bs == 0) || (k == 0))) (ignored_bits bs k == 0) is in
    let shape = and_parts (nat_lt k 8) (not (length bs == 0) || (k == 0)) both.0 in
    let none : bs ≡ [] → k ≡ 0 = λ e. eqb-true k 0 (rw e at shape.1) in
    (packed bs k, (ltb-true k 8 shape.0, none, eqb-true (ignored_bits bs k) 0 both.1), refl)

int8_data : (bs : List ℕ) → IsBytes bs → IsVectorBytes (3 ∷ 0 ∷ bs)
int8_data bs are = (int8 (map (cast_signed w8) bs), held_range bs are, ap (λ xs. 3 ∷ 0 ∷ xs) (held_back bs are))

float32_data : (bs : List ℕ) → IsBytes bs → length bs % 4 ≡ 0 → IsVectorBytes (39 ∷ 0 ∷ bs)
float32_data bs are whole =
    (float32 (words bs), words_range bs are, ap (λ xs. 39 ∷ 0 ∷ xs) (words_of bs are whole))

numbers_data : (kind k : ℕ) (bs : List ℕ) → IsBytes bs
    → ((k == 0) && ((kind == 3) || ((kind == 39) && (length bs % 4 == 0)))) ≡ true → IsVectorBytes (kind ∷ k ∷ bs)
numbers_data kind k bs are is =
    let both = and_parts (k == 0) ((kind == 3) || ((kind == 39) && (length bs % 4 == 0))) is in
    let padding : k ≡ 0 = eqb-true k 0 both.0 in
    elim (or_cases (kind == 3) ((kind == 39) && (length bs % 4 == 0)) both.1) [
      | inl e ↦ let at : kind ≡ 3 = eqb-true kind 3 e in rw (at, padding) (int8_data bs are)
      | inr e ↦
          let p = and_parts (kind == 39) (length bs % 4 == 0) e in
          let at : kind ≡ 39 = eqb-true kind 39 p.0 in
          rw (at, padding) (float32_data bs are (eqb-true (length bs % 4) 0 p.1))
    ]

some_data : (bytes : List ℕ) → IsBytes bytes → is_vector_bytes bytes ≡ true → IsVectorBytes bytes
some_data [] are is = absurd cc
some_data (kind ∷ []) are is = absurd cc
some_data (kind ∷ k ∷ bs) are is = elim (cases_eq kind 16) [
  | inl e ↦ let whole : is_vector_bytes (16 ∷ k ∷ bs) ≡ true = rw e at is in rw e (packed_data k bs whole)
  | inr other ↦
      let apart : (kind == 16) ≡ false = ne_eqb kind 16 other in
      let both = and_parts _ _ (rw apart at is) in
      numbers_data kind k bs (λ i. are (suc (suc i))) both.0
]

pub vector_meaning : (bytes : List ℕ) → IsBytes bytes → (is_vector_bytes bytes ≡ true) ↔ IsVectorBytes bytes
vector_meaning bytes are =
    (some_data bytes are, λ held. rw (← held.2) (accepted held.0 held.1))
