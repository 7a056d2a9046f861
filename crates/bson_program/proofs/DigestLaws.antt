-- The digests of lines, byte by byte.
use Rattle.std.proofs.Common.{◌≡◌, ◌∙◌, ℕ, Bool, true, false, List, [], ◌∷◌, ◌++◌, ◌+◌, ◌-◌, ◌<◌, ◌≤◌, ap, sym, refl, subst, append_assoc, append-nil, drop, suc, take, length, length-drop, get_or, arith}
use Rattle.std.proofs.Math.Seq.{take-suc}
use Rattle.std.proofs.lemmas.List.{get_or-drop, take_more}
use Rattle.std.proofs.lemmas.Bool.Decides.{nat_tests}
use Rattle.std.specs.Prelude.{◌==◌, if◌then◌else◌, slice_range}
use Rattle.sha2.specs.Hashers.{Holds256}
use Rattle.sha2.specs.declared.Sha256.{Sha256}
use Rattle.bson_program.specs.Digests.{HasOpenLine, open_line_after, digest_line, digests_from}

-- ---- output in blocks

-- the line after two blocks is that after the second, begun by the first
begun_of_pieces : (open_line xs ys : List ℕ) → open_line_after open_line (xs ++ ys) ≡ open_line_after (open_line_after open_line xs) ys
unfolding open_line_after
begun_of_pieces open_line [] ys = refl
begun_of_pieces open_line (x ∷ xs) ys =
    elim (x == 10) as (λ t. (if t then open_line_after [] (xs ++ ys) else open_line_after (open_line ++ x ∷ []) (xs ++ ys))
    ≡ open_line_after (if t then open_line_after [] xs else open_line_after (open_line ++ x ∷ []) xs) ys)
    [ true ↦ begun_of_pieces [] xs ys | false ↦ begun_of_pieces (open_line ++ x ∷ []) xs ys ]

-- the digests of two blocks are those of the whole
digests_of_pieces : (open_line xs ys : List ℕ)
    → digests_from open_line (xs ++ ys) ≡ digests_from open_line xs ++ digests_from (open_line_after open_line xs) ys
unfolding open_line_after digests_from
digests_of_pieces open_line [] ys = refl
digests_of_pieces open_line (x ∷ xs) ys =
    elim (x == 10) as (λ t. (if t then digest_line open_line ++ digests_from [] (xs ++ ys) else digests_from (open_line ++ x ∷ []) (xs ++ ys))
    ≡ (if t then digest_line open_line ++ digests_from [] xs else digests_from (open_line ++ x ∷ []) xs)
    ++ digests_from (if t then open_line_after [] xs else open_line_after (open_line ++ x ∷ []) xs) ys) [
      | true ↦ ap (λ l. digest_line open_line ++ l) (digests_of_pieces [] xs ys)
          ∙ sym (append_assoc (digest_line open_line) (digests_from [] xs) (digests_from (open_line_after [] xs) ys))
      | false ↦ digests_of_pieces (open_line ++ x ∷ []) xs ys
    ]

-- ---- one more byte

not_equal : (a b : ℕ) → (a ≡ b → ⊥) → (a == b) ≡ false
not_equal a b other = grind (arith, nat_tests)

begun_by : (line : List ℕ) (b : ℕ) → open_line_after line (b ∷ []) ≡ (if b == 10 then [] else line ++ b ∷ [])
unfolding open_line_after
begun_by line b = refl

pub begun_more : (open_line xs : List ℕ) (b : ℕ)
    → open_line_after open_line (xs ++ b ∷ []) ≡ (if b == 10 then [] else open_line_after open_line xs ++ b ∷ [])
begun_more open_line xs b = begun_of_pieces open_line xs (b ∷ []) ∙ begun_by (open_line_after open_line xs) b

digests_by : (line : List ℕ) (b : ℕ) → digests_from line (b ∷ []) ≡ (if b == 10 then digest_line line else [])
unfolding digests_from
digests_by line b =
    elim (b == 10) as (λ t. (if t then digest_line line ++ [] else []) ≡ (if t then digest_line line else []))
    [ true ↦ append-nil (digest_line line) | false ↦ refl ]

pub digests_more : (open_line xs : List ℕ) (b : ℕ)
    → digests_from open_line (xs ++ b ∷ []) ≡ digests_from open_line xs ++ (if b == 10 then digest_line (open_line_after open_line xs) else [])
digests_more open_line xs b =
    digests_of_pieces open_line xs (b ∷ []) ∙ ap (λ l. digests_from open_line xs ++ l) (digests_by (open_line_after open_line xs) b)

-- ---- the steps of a run

pub none_ended : (open_line : List ℕ) → [] ≡ digests_from open_line []
unfolding digests_from
none_ended open_line = refl

pub none_begun : (hasher : Sha256) (open_line bytes : List ℕ) → Holds256 hasher open_line → HasOpenLine hasher open_line bytes 0 0
unfolding open_line_after
none_begun hasher open_line bytes holds = record { hashed_bytes = open_line; holds = holds; is_open_line = append-nil open_line }

one_more_from : (bytes : List ℕ) (start at : ℕ) → start ≤ at → at < length bytes
    → slice_range bytes start (at + 1) ≡ slice_range bytes start at ++ get_or bytes at 0 ∷ []
one_more_from bytes start at before within =
    let length : at - start < length (drop start bytes) = simp length-drop (omega arith) in
    let next : at + 1 - start ≡ suc (at - start) = omega arith in
    let place : start + (at - start) ≡ at = omega arith in
    let byte : get_or (drop start bytes) (at - start) 0 ≡ get_or bytes at 0 =
    get_or-drop start bytes (at - start) 0 ∙ ap (λ i. get_or bytes i 0) place in
    ap (λ n. take n (drop start bytes)) next ∙ take-suc (drop start bytes) (at - start) 0 length
    ∙ ap (λ x. take (at - start) (drop start bytes) ++ x ∷ []) byte

-- a byte that ends a line
pub line_ended : (hasher : Sha256) (open_line bytes : List ℕ) (at : ℕ) → at < length bytes → get_or bytes at 0 ≡ 10
    → Holds256 hasher [] → HasOpenLine hasher open_line bytes (at + 1) (at + 1)
line_ended hasher open_line bytes at within is holds = record {
  hashed_bytes = [];
  holds = holds;
  is_open_line =
      let ended : open_line_after open_line (take at bytes ++ get_or bytes at 0 ∷ []) ≡ [] =
      begun_more open_line (take at bytes) (get_or bytes at 0)
      ∙ ap (λ (x : ℕ). if x == 10 then [] else open_line_after open_line (take at bytes) ++ x ∷ []) is in
      let empty : (at + 1) - (at + 1) ≡ 0 = omega arith in
      let none : slice_range bytes (at + 1) (at + 1) ≡ [] = ap (λ n. take n (drop (at + 1) bytes)) empty in
      none ∙ sym (ap (open_line_after open_line) (take_more bytes at 0 within) ∙ ended);
}

pub digest_added : (open_line bytes old new : List ℕ) (at : ℕ) → at < length bytes → get_or bytes at 0 ≡ 10
    → old ≡ digests_from open_line (take at bytes) → new ≡ old ++ digest_line (open_line_after open_line (take at bytes))
    → new ≡ digests_from open_line (take (at + 1) bytes)
digest_added open_line bytes old new at within is before grown =
    let more : digests_from open_line (take at bytes ++ get_or bytes at 0 ∷ [])
    ≡ digests_from open_line (take at bytes) ++ digest_line (open_line_after open_line (take at bytes)) =
    digests_more open_line (take at bytes) (get_or bytes at 0)
    ∙ ap (λ (x : ℕ). digests_from open_line (take at bytes)
    ++ (if x == 10 then digest_line (open_line_after open_line (take at bytes)) else [])) is in
    grown ∙ ap (λ l. l ++ digest_line (open_line_after open_line (take at bytes))) before ∙ sym more
    ∙ ap (digests_from open_line) (sym (take_more bytes at 0 within))

-- a byte of a line
pub line_grown : (hasher : Sha256) (open_line bytes : List ℕ) (start at : ℕ) → start ≤ at → at < length bytes
    → (get_or bytes at 0 ≡ 10 → ⊥) → HasOpenLine hasher open_line bytes start at → HasOpenLine hasher open_line bytes start (at + 1)
line_grown hasher open_line bytes start at before within other it = record {
  hashed_bytes = it.hashed_bytes;
  holds = it.holds;
  is_open_line =
      let test : (get_or bytes at 0 == 10) ≡ false = not_equal (get_or bytes at 0) 10 other in
      let grown : open_line_after open_line (take at bytes ++ get_or bytes at 0 ∷ []) ≡ open_line_after open_line (take at bytes) ++ get_or bytes at 0 ∷ [] =
      begun_more open_line (take at bytes) (get_or bytes at 0)
      ∙ ap (λ (t : Bool). if t then [] else open_line_after open_line (take at bytes) ++ get_or bytes at 0 ∷ []) test in
      ap (λ l. it.hashed_bytes ++ l) (one_more_from bytes start at before within)
      ∙ sym (append_assoc it.hashed_bytes (slice_range bytes start at) (get_or bytes at 0 ∷ []))
      ∙ ap (λ l. l ++ get_or bytes at 0 ∷ []) it.is_open_line ∙ sym grown ∙ ap (open_line_after open_line) (sym (take_more bytes at 0 within));
}

pub digests_kept : (open_line bytes digests : List ℕ) (at : ℕ) → at < length bytes → (get_or bytes at 0 ≡ 10 → ⊥)
    → digests ≡ digests_from open_line (take at bytes) → digests ≡ digests_from open_line (take (at + 1) bytes)
digests_kept open_line bytes digests at within other before =
    let test : (get_or bytes at 0 == 10) ≡ false = not_equal (get_or bytes at 0) 10 other in
    let more : digests_from open_line (take at bytes ++ get_or bytes at 0 ∷ []) ≡ digests_from open_line (take at bytes) =
    digests_more open_line (take at bytes) (get_or bytes at 0)
    ∙ ap (λ (t : Bool). digests_from open_line (take at bytes)
    ++ (if t then digest_line (open_line_after open_line (take at bytes)) else [])) test
    ∙ append-nil (digests_from open_line (take at bytes)) in
    before ∙ sym more ∙ ap (digests_from open_line) (sym (take_more bytes at 0 within))

-- the hasher, once it has the rest of the line up to this place
pub line_fed : (old new : Sha256) (open_line bytes : List ℕ) (start at : ℕ) → HasOpenLine old open_line bytes start at
    → ((m : List ℕ) → Holds256 old m → Holds256 new (m ++ slice_range bytes start at))
    → Holds256 new (open_line_after open_line (take at bytes))
line_fed old new open_line bytes start at it fed = subst (Holds256 new) it.is_open_line (fed it.hashed_bytes it.holds)
