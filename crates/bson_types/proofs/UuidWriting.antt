-- The text that the `uuid` crate writes is the one of the digits in their groups.
use Rattle.std.proofs.Common.{◌≡◌, ◌+◌, ◌*◌, ◌/◌, ◌%◌, ◌<◌, ℕ, zero, suc, List, [], ◌∷◌, length, slice_index, inl, refl}
use Rattle.std.proofs.Common.{sym, ap, subst, ◌∙◌, arith}
use Rattle.hex.specs.Hex.{IsBytes, encode_lower, encode_with, lower_digits}
use Rattle.uuid.specs.Text.{by_index, hex_digit, hyphenated_text as kit_text, lower, nibble}
use Rattle.uuid.proofs.TextLemmas.{by_index_cong, table_at}
use Rattle.bson_types.specs.Uuid.{IsUuid, hyphenated_text, with_hyphens}
use Rattle.bson_types.proofs.UuidLaws.{by_front}

-- the digit at a place
digit_at : List ℕ → ℕ → ℕ
digit_at id k = hex_digit lower (nibble id k)

abbrev double : ℕ → ℕ
double zero = zero
double (suc n) = suc (suc (double n))

-- a byte has two places
next_byte : (b : ℕ) (id : List ℕ) (k : ℕ) → nibble (b ∷ id) (suc (suc k)) ≡ nibble id k
next_byte b id k =
    let turn : suc (suc k) % 2 ≡ k % 2 = omega arith in
    let half : suc (suc k) / 2 ≡ suc (k / 2) = omega arith in
    rw (turn, half) refl

high_digit : (b : ℕ) (id : List ℕ) → b < 256 → digit_at (b ∷ id) 0 ≡ slice_index lower_digits (b / 16)
unfolding digit_at
high_digit b id small =
    let one : b / 16 % 16 ≡ b / 16 = omega arith in
    rw one (sym (table_at lower (b / 16) 0 (inl refl) (omega arith)))

low_digit : (b : ℕ) (id : List ℕ) → digit_at (b ∷ id) 1 ≡ slice_index lower_digits (b % 16)
unfolding digit_at
low_digit b id = sym (table_at lower (b % 16) 0 (inl refl) (omega arith))

-- the digits place by place are those byte by byte
digits_in_turn : (id : List ℕ) → IsBytes id → by_index (double (length id)) (digit_at id) ≡ encode_lower id
unfolding by_index encode_with digit_at
digits_in_turn [] are = refl
digits_in_turn (b ∷ id) are =
    let n = double (length id) in
    let rest = by_index_cong n (λ k. digit_at (b ∷ id) (suc (suc k))) (digit_at id)
    (λ k within. ap (hex_digit lower) (next_byte b id k)) in
    by_front (suc n) (digit_at (b ∷ id))
    ∙ rw (
      by_front n (λ k. digit_at (b ∷ id) (suc k)),
      rest,
      digits_in_turn id (λ i. are (suc i)),
      high_digit b id (are 0),
      low_digit b id,
    ) refl

-- the four hyphens are between the groups
grouped : (id : List ℕ) → kit_text lower id ≡ with_hyphens (by_index 32 (digit_at id))
unfolding by_index digit_at
grouped id = refl

pub written_text : (id : List ℕ) → IsUuid id → kit_text lower id ≡ hyphenated_text id
written_text id is =
    let digits : by_index (double 16) (digit_at id) ≡ encode_lower id =
    subst (λ n. by_index (double n) (digit_at id) ≡ encode_lower id) is.0 (digits_in_turn id is.1) in
    grouped id ∙ ap with_hyphens digits
