-- What the decoders of base64 and hexadecimal digits give is bytes.
use Rattle.std.proofs.Common.{◌≡◌, ◌<◌, ◌+◌, ◌*◌, ◌/◌, ◌%◌, ◌==◌, inl, inr, ℕ, zero, suc, nat_lt, List, [], ◌∷◌, ◌++◌}
use Rattle.std.proofs.Common.{length, take, slice_index, slice_set, Bool, true, false, cond, Option, Some, None, Result}
use Rattle.std.proofs.Common.{Ok, Err, refl, sym, ◌∙◌, subst, arith}
use Rattle.std.proofs.lemmas.Bool.{cases_lt, cases_eq}
use Rattle.std.proofs.lemmas.List.{get_or-set_same, get_or-set_other, set_past, get_or_past}
use Rattle.hex.specs.Hex.{IsBytes, decode_sized}
use Rattle.hex.proofs.HexLemmas.{decode_of-ok, decode_sized-ok, decode_sized-twice}
use Rattle.base64.specs.declared.decode.DecodeError.{DecodeError}
use Rattle.base64.specs.Decode.{IsDecodeTable, decode_group, decode_outcome, group_error, group_bytes, groups_error}
use Rattle.base64.specs.Decode.{groups_bytes, groups_before_last, symbol_error, or_else, push_leftover, scan_steps}
use Rattle.base64.specs.Decode.{scan_last, scan_bytes, suffix_bytes, no_leftover}
use Rattle.base64.specs.GeneralPurpose.{decode_of}
use Rattle.base64.specs.Engines.{standard}
use Rattle.base64.proofs.Tables.{are_tables_inverse, IsDecodeTable_from}

-- ---- lists of bytes

no_bytes : IsBytes []
no_bytes i = omega arith

more_bytes : (x : ℕ) (xs : List ℕ) → x < 256 → IsBytes xs → IsBytes (x ∷ xs)
more_bytes x xs h hs zero = h
more_bytes x xs h hs (suc i) = hs i

joined_bytes : (xs ys : List ℕ) → IsBytes xs → IsBytes ys → IsBytes (xs ++ ys)
joined_bytes [] ys hx hy = hy
joined_bytes (x ∷ xs) ys hx hy = more_bytes x (xs ++ ys) (hx 0) (joined_bytes xs ys (λ i. hx (suc i)) hy)

first_bytes : (n : ℕ) (xs : List ℕ) → IsBytes xs → IsBytes (take n xs)
first_bytes zero xs h = no_bytes
first_bytes (suc n) [] h = no_bytes
first_bytes (suc n) (x ∷ xs) h = more_bytes x (take n xs) (h 0) (first_bytes n xs (λ i. h (suc i)))

-- ---- hexadecimal digits

pub hex_bytes : (s : List ℕ) (n : ℕ) (bytes : List ℕ) → decode_sized s n ≡ Ok bytes → (length bytes ≡ n) × IsBytes bytes
hex_bytes s n bytes h =
    let size = decode_sized-ok s n bytes h in
    let ok = decode_of-ok s bytes (sym (decode_sized-twice s n size) ∙ h) in
    let twice = ok.2 in
    (omega (arith, size, twice), ok.3)

-- ---- base64

abbrev type_of : {A : Type 0} → A → Type 0
type_of {A} a = A

-- what the decoder keeps of the last symbols
abbrev Leftover : Type 0
Leftover = type_of no_leftover

abbrev IsSmall : Leftover → Type 0
IsSmall st = (k : ℕ) → slice_index st.morsels k < 64

group_is : (a b c d : ℕ) → a < 64 → b < 64 → c < 64 → d < 64 → IsBytes (decode_group a b c d)
group_is a b c d ha hb hc hd =
    let first : a * 4 + b / 16 < 256 = omega arith in
    let second : b % 16 * 16 + c / 4 < 256 = omega arith in
    let third : c % 4 * 64 + d < 256 = omega arith in
    let last = c % 4 * 64 + d in
    let middle = b % 16 * 16 + c / 4 in
    more_bytes (a * 4 + b / 16) (middle ∷ last ∷ []) first
    (more_bytes middle (last ∷ []) second (more_bytes last [] third no_bytes))

or_else_none : (x y : Option DecodeError) → or_else x y ≡ None → (x ≡ None) × (y ≡ None)
or_else_none None y h = (refl, h)
or_else_none (Some e) y h = absurd cc

outcome_ok : (x : Option DecodeError) (d b : List ℕ) → decode_outcome x d ≡ Ok b → (x ≡ None) × (d ≡ b)
outcome_ok None d b h = (refl, cc)
outcome_ok (Some e) d b h = absurd cc

guarded_none : (b : Bool) (e : DecodeError) → cond b (Some e) None ≡ None → b ≡ false
guarded_none true e h = absurd cc
guarded_none false e h = refl

module _ (dec : List ℕ) (table : IsDecodeTable dec) (size : length dec ≡ 256) where
  symbol_small : (b : ℕ) → (slice_index dec b == 255) ≡ false → slice_index dec b < 64
  symbol_small b h = elim (cases_lt b 256) [
    | inl byte ↦ elim (table b byte) [ inl e ↦ absurd (let g = rw e at h in cc) | inr s ↦ s ]
    | inr past ↦ rw (get_or_past dec b 0 (omega (arith, size))) (omega arith)
  ]

  read_small : (s : List ℕ) (i : ℕ) → symbol_error dec s i ≡ None → slice_index dec (slice_index s i) < 64
  read_small s i h = symbol_small (slice_index s i) (guarded_none _ _ h)

  group_bytes_are : (s : List ℕ) (i : ℕ) → group_error dec s i ≡ None → IsBytes (group_bytes dec s i)
  group_bytes_are s i h =
      let a = or_else_none (symbol_error dec s i) _ h in
      let b = or_else_none (symbol_error dec s (i + 1)) _ a.1 in
      let c = or_else_none (symbol_error dec s (i + 2)) (symbol_error dec s (i + 3)) b.1 in
      group_is (slice_index dec (slice_index s i)) (slice_index dec (slice_index s (i + 1)))
      (slice_index dec (slice_index s (i + 2))) (slice_index dec (slice_index s (i + 3))) (read_small s i a.0)
      (read_small s (i + 1) b.0) (read_small s (i + 2) c.0) (read_small s (i + 3) c.1)

  groups_are : (s : List ℕ) (q : ℕ) → groups_error dec s q ≡ None → IsBytes (groups_bytes dec s q)
  unfolding groups_error groups_bytes
  groups_are s zero h = no_bytes
  groups_are s (suc q) h =
      let p = or_else_none (groups_error dec s q) (group_error dec s (4 * q)) h in
      joined_bytes (groups_bytes dec s q) (group_bytes dec s (4 * q)) (groups_are s q p.0)
      (group_bytes_are s (4 * q) p.1)

  set_small : (xs : List ℕ) (i v k : ℕ) → ((j : ℕ) → slice_index xs j < 64) → v < 64
      → slice_index (slice_set xs i v) k < 64
  set_small xs i v k h small = elim (cases_eq k i) [
    | inl same ↦ elim (cases_lt i (length xs)) [
      | inl fits ↦ rw (same, get_or-set_same xs i v 0 fits) small
      | inr past ↦ rw (set_past xs i v past) (h k)
    ]
    | inr other ↦ rw (get_or-set_other xs i k v 0 other) (h k)
  ]

  choose : (p l a v : Bool) (e f g : DecodeError) (x y next : Leftover)
      → cond p (cond l (Err e) (Ok x)) (cond a (Err f) (cond v (Err g) (Ok y))) ≡ Ok next → IsSmall x
      → (v ≡ false → IsSmall y) → IsSmall next
  choose true true a v e f g x y next h sx sy = absurd cc
  choose true false a v e f g x y next h sx sy = let same : x ≡ next = cc in subst IsSmall same sx
  choose false l true v e f g x y next h sx sy = absurd cc
  choose false l false true e f g x y next h sx sy = absurd cc
  choose false l false false e f g x y next h sx sy = let same : y ≡ next = cc in subst IsSmall same (sy refl)

  push_small : (pad at i b : ℕ) (st next : Leftover) → push_leftover dec pad at st i b ≡ Ok next → IsSmall st
      → IsSmall next
  push_small pad at i b st next h small =
      choose (b == pad) (nat_lt i 2) (nat_lt 0 st.padding_count) (slice_index dec b == 255) _ _ _ _ _ next h small
      (λ e k. set_small st.morsels st.morsels_count (slice_index dec b) k small (symbol_small b e))

  abbrev AllSmall : Result Leftover DecodeError → Type 0
  AllSmall (Ok st) = IsSmall st
  AllSmall (Err e) = Unit {0}

  push_all : (r : Result Leftover DecodeError) → ((next : Leftover) → r ≡ Ok next → IsSmall next) → AllSmall r
  push_all (Ok st) h = h st refl
  push_all (Err e) h = tt

  scan_all : (pad at i : ℕ) (bs : List ℕ) (r : Result Leftover DecodeError) → AllSmall r
      → AllSmall (scan_steps dec pad at r i bs)
  unfolding scan_steps
  scan_all pad at i bs (Err e) h = tt
  scan_all pad at i [] (Ok st) h = h
  scan_all pad at i (b ∷ bs) (Ok st) h =
      scan_all pad at (i + 1) bs (push_leftover dec pad at st i b)
      (push_all _ (λ next e. push_small pad at i b st next e h))

  left_bytes : (r : Result Leftover DecodeError) → AllSmall r → IsBytes (scan_bytes r)
  left_bytes (Ok st) h =
      let m = λ (k : ℕ). slice_index st.morsels k in
      first_bytes (st.morsels_count * 6 / 8) (decode_group (m 0) (m 1) (m 2) (m 3))
      (group_is (m 0) (m 1) (m 2) (m 3) (h 0) (h 1) (h 2) (h 3))
  left_bytes (Err e) h = no_bytes

  none_small : IsSmall no_leftover
  none_small zero = omega arith
  none_small (suc zero) = omega arith
  none_small (suc (suc zero)) = omega arith
  none_small (suc (suc (suc zero))) = omega arith
  none_small (suc (suc (suc (suc k)))) = omega arith

  suffix_is : (pad at : ℕ) (s : List ℕ) → IsBytes (suffix_bytes dec pad at s)
  suffix_is pad at s = left_bytes (scan_last dec pad at s) (scan_all pad at 0 _ (Ok no_leftover) none_small)

pub base64_bytes : (s bytes : List ℕ) → decode_of standard s ≡ Ok bytes → IsBytes bytes
base64_bytes s bytes h =
    let dec = standard.decode_table in
    let pad = standard.padding.value in
    let table =
    IsDecodeTable_from standard.encode_table dec
    (are_tables_inverse standard.encode_table dec pad standard.tables) in
    let p = outcome_ok _ _ bytes h in
    let parts = or_else_none _ _ p.0 in
    let g = or_else_none (groups_error dec s (groups_before_last (length s))) _ parts.1 in
    let q = groups_before_last (length s) in
    subst IsBytes p.1
    (joined_bytes (groups_bytes dec s q) (suffix_bytes dec pad (4 * q) s) (groups_are dec table refl s q g.0)
    (suffix_is dec table refl pad (4 * q) s))
