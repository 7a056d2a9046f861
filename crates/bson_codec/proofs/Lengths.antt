-- Bytes that begin with their length.
use Rattle.std.proofs.Common.{◌≡◌, ℕ, ◌^◌, ◌≤◌, List, ◌++◌, length, take, drop, Bool, true, false, Ok, Err, ltb}
use Rattle.std.proofs.Common.{refl, sym, ap, ◌∙◌, arith}
use Rattle.std.specs.Int.{w32, from_le_bytes}
use Rattle.std.proofs.lemmas.Bool.{le-ltb, ltb-false}
use Rattle.std.proofs.lemmas.List.{length-take-le, take_all, take_at, take-append-le}
use Rattle.bson_bytes.specs.Fault.{fault_at}
use Rattle.bson_bytes.specs.Reading.{read_length}
use Rattle.bson_bytes.specs.declared.fault.FaultKind.TheVariants.{Short, Length}
use Rattle.bson_codec.specs.DumpRuns.{BeginsWithLength}
use Rattle.bson_codec.specs.Streams.{declared_prefix, larger_length, declared_length}

pub record Counted (bytes : List ℕ) : Type 0 where
  pub long : 4 ≤ length bytes
  pub value : from_le_bytes w32 (take 4 bytes) ≡ length bytes
  pub small : ltb (from_le_bytes w32 (take 4 bytes)) (2 ^ 31) ≡ true

counted_by : (bytes rest : List ℕ) (b c : Bool) → ltb (length bytes) 4 ≡ b
    → ltb (from_le_bytes w32 (take 4 bytes)) (2 ^ 31) ≡ c → read_length bytes ≡ Ok (length bytes, rest) → Counted bytes
unfolding read_length
counted_by bytes rest true c e f h = let g : read_length bytes ≡ Err (fault_at Short bytes) = rw e refl in absurd cc
counted_by bytes rest false false e f h = let g : read_length bytes ≡ Err (fault_at Length bytes) = rw (e, f) refl in absurd cc
counted_by bytes rest false true e f h =
    let g : read_length bytes ≡ Ok (from_le_bytes w32 (take 4 bytes), drop 4 bytes) = rw (e, f) refl in
    let same : (from_le_bytes w32 (take 4 bytes), drop 4 bytes) ≡ (length bytes, rest) = cc in
    record { long = ltb-false _ _ e; value = ap (λ (x : ℕ × List ℕ). x.0) same; small = f }

pub counted : (bytes : List ℕ) → BeginsWithLength bytes → Counted bytes
counted bytes h = counted_by bytes h.0 _ _ refl refl h.1

promised_four : (four : List ℕ) (n : ℕ) → length four ≡ 4 → from_le_bytes w32 four ≡ n → 4 ≤ n → ltb n (2 ^ 31) ≡ true
    → declared_length four ≡ n
unfolding read_length
promised_four four n l v least small =
    let whole : take 4 four ≡ four = take_all 4 four (omega (arith, l)) in
    let long : ltb (length four) 4 ≡ false = le-ltb (length four) 4 (omega (arith, l)) in
    let value : from_le_bytes w32 (take 4 four) ≡ n = ap (from_le_bytes w32) whole ∙ v in
    let fits : ltb (from_le_bytes w32 (take 4 four)) (2 ^ 31) ≡ true = ap (λ (k : ℕ). ltb k (2 ^ 31)) value ∙ small in
    let read : read_length four ≡ Ok (from_le_bytes w32 (take 4 four), drop 4 four) = rw (long, fits) refl in
    let no : ltb (from_le_bytes w32 (take 4 four)) (length four) ≡ false = le-ltb _ _ (omega (arith, l, value, least)) in
    ap (larger_length (length four)) read ∙ rw no value

-- they are the front of any that begin with them
pub length_front : (bytes more : List ℕ) → BeginsWithLength bytes → declared_prefix (bytes ++ more) ≡ bytes
length_front bytes more h =
    let c = counted bytes h in
    let first : take 4 (bytes ++ more) ≡ take 4 bytes = take-append-le 4 bytes more c.long in
    let size : declared_length (take 4 bytes) ≡ length bytes =
    promised_four (take 4 bytes) (length bytes) (length-take-le 4 bytes c.long) c.value c.long
    (ap (λ (k : ℕ). ltb k (2 ^ 31)) (sym c.value) ∙ c.small) in
    ap (λ (k : ℕ). take k (bytes ++ more)) (ap declared_length first ∙ size) ∙ take_at bytes more (length bytes) refl

pub one_span : (a b x y : List ℕ) → BeginsWithLength a → BeginsWithLength b → a ++ x ≡ b ++ y → a ≡ b
one_span a b x y h k e = sym (length_front a x h) ∙ ap declared_prefix e ∙ length_front b y k
