-- The bytes that are read from a reader are the document at its front.
use Rattle.std.proofs.Common.{◌≡◌, ◌⊎◌, inl, inr, ℕ, ◌+◌, ◌^◌, ◌<◌, ◌≤◌, List, [], ◌∷◌, ◌++◌, length, take, Option}
use Rattle.std.proofs.Common.{None, Some, Result, Ok, Err, OnOk, Bool, true, false, cond, ltb, refl, sym, ap, subst, ◌∙◌, append_assoc, arith}
use Rattle.std.specs.Int.{w32}
use Rattle.std.specs.Io.KnownBytes.{Consumes, IsAtEnd}
use Rattle.std.proofs.KnownBytes.{Consumes-trans}
use Rattle.std.proofs.lemmas.Bool.{le-ltb, ltb-false}
use Rattle.std.proofs.lemmas.List.{take_all, take_at, length-append, append-nil}
use Rattle.bson_model.specs.Value.{Pairs}
use Rattle.bson_bytes.specs.Grammar.{little_endian, IsDocument, is_document}
use Rattle.bson_bytes.specs.ReadDocuments.{IsReadAsDocumentIn, IsFirstDocumentIn}
use Rattle.bson_bytes.specs.Reading.{read_length}
use Rattle.bson_bytes.specs.declared.fault.Fault.{Fault}
use Rattle.bson_model.specs.declared.options.DuplicateKeys.{DuplicateKeys}
use Rattle.bson_bytes.proofs.Offered.{length-little_endian, wide32, size_again}
use Rattle.bson_codec.specs.Streams.{BytesAdded, declared_prefix, declared_length, larger_length}

-- the bytes of a document begin with their number
pub record Sized (bytes : List ℕ) : Type 0 where
  pub body : List ℕ
  pub whole : bytes ≡ little_endian w32 (length bytes) ++ body
  pub least : 5 ≤ length bytes
  pub small : length bytes < 2 ^ 31

pub sized : {keys : DuplicateKeys} {d : ℕ} {bytes : List ℕ} {ps : Pairs} → IsDocument keys d bytes ps → Sized bytes
sized (is_document d list ps ws lt) =
    let body = list ++ 0 ∷ [] in
    let n = length list + 5 in
    let count : length (little_endian w32 n ++ body) ≡ n =
    length-append (little_endian w32 n) body ∙ ap (λ (k : ℕ). k + length body) (length-little_endian w32 (2 ^ 32) wide32 n)
    ∙ ap (λ (k : ℕ). 4 + k) (length-append list (0 ∷ [])) ∙ omega arith in
    record {
      body = body;
      whole = ap (λ (k : ℕ). little_endian w32 k ++ body) (sym count);
      least = omega (arith, count);
      small = omega (arith, count, lt);
    }

record Left (all bytes : List ℕ) (after : Option (List ℕ)) : Type 0 where
  rest : List ℕ
  parts : all ≡ bytes ++ rest
  none : IsAtEnd after → rest ≡ []

left_of : (all bytes : List ℕ) (after : Option (List ℕ)) → Consumes (Some all) after bytes → Left all bytes after
left_of all bytes None h = absurd h
left_of all bytes (Some rest) h = record { rest = rest; parts = h; none = λ e. e }

-- the bytes that are read up to a count, or to the end, are the front
counted : (n : ℕ) (all bytes : List ℕ) (after : Option (List ℕ)) → Left all bytes after
    → (length bytes ≡ n) ⊎ IsAtEnd after → length bytes ≤ n → bytes ≡ take n all
counted n all bytes after l (inl e) b = sym (ap (take n) l.parts ∙ take_at bytes l.rest n e)
counted n all bytes after l (inr end) b =
    let whole : all ≡ bytes = l.parts ∙ ap (λ (r : List ℕ). bytes ++ r) (l.none end) ∙ append-nil bytes in
    sym (ap (take n) whole ∙ take_all n bytes b)

picked : (n k : ℕ) (b : Bool) → ltb k n ≡ b → n ≤ cond b n k
picked n k true e = omega arith
picked n k false e = ltb-false k n e

-- the length is no less than that of the bytes
least : (n : ℕ) (r : Result (ℕ × List ℕ) Fault) → n ≤ larger_length n r
least n (Ok x) = picked n x.0 (ltb x.0 n) refl
least n (Err f) = omega arith

promised_is : (n : ℕ) → 5 ≤ n → n < 2 ^ 31 → declared_length (little_endian w32 n) ≡ n
promised_is n least small =
    let read : read_length (little_endian w32 n) ≡ Ok (n, []) = ap read_length (sym (append-nil (little_endian w32 n))) ∙ size_again n [] small in
    let four : length (little_endian w32 n) ≡ 4 = length-little_endian w32 (2 ^ 32) wide32 n in
    let no : ltb n (length (little_endian w32 n)) ≡ false = le-ltb n (length (little_endian w32 n)) (omega (arith, least, four)) in
    ap (larger_length (length (little_endian w32 n))) read ∙ rw no refl

pub front_none : declared_prefix [] ≡ []
front_none = take_all _ [] (omega arith)

-- a document at the front of bytes is that front
pub front_read : (keys : DuplicateKeys) (d : ℕ) (all : List ℕ) (ps : Pairs) (rest : List ℕ) → IsFirstDocumentIn keys d all ps rest
    → IsReadAsDocumentIn keys d (declared_prefix all) ps
front_read keys d all ps rest h =
    let s = sized h.read.grammar in
    let n = length h.front in
    let begins : all ≡ little_endian w32 n ++ (s.body ++ rest) =
    h.parts ∙ ap (λ (x : List ℕ). x ++ rest) s.whole ∙ append_assoc (little_endian w32 n) s.body rest in
    let first : take 4 all ≡ little_endian w32 n =
    ap (take 4) begins ∙ take_at (little_endian w32 n) (s.body ++ rest) 4 (length-little_endian w32 (2 ^ 32) wide32 n) in
    let says : declared_length (take 4 all) ≡ n = ap declared_length first ∙ promised_is n s.least s.small in
    let same : declared_prefix all ≡ h.front =
    ap (λ (k : ℕ). take k all) says ∙ ap (take n) h.parts ∙ take_at h.front rest n refl in
    subst (λ (bytes : List ℕ). IsReadAsDocumentIn keys d bytes ps) (sym same) h.read

bytes_read : (before after : Option (List ℕ)) (new : List ℕ) → BytesAdded before after [] new → Consumes before after new
bytes_read before after new t = subst (Consumes before after) (sym t.1) t.2

pub took_whole : (before mid after : Option (List ℕ)) (one two : List ℕ) → BytesAdded before mid [] one
    → BytesAdded mid after one two → Consumes before after two
took_whole before mid after one two first second =
    subst (Consumes before after) (sym second.1)
    (Consumes-trans before mid after one second.0 (bytes_read before mid one first) second.2)

-- the length, or the end
length_first : (all start one : List ℕ) (before mid : Option (List ℕ)) → before ≡ Some all → start ≡ []
    → BytesAdded before mid start one → (length one ≡ 4) ⊎ IsAtEnd mid → length one ≤ 4
    → BytesAdded (Some all) mid [] one × (one ≡ take 4 all)
length_first all start one before mid known empty first e b =
    let from_none : BytesAdded before mid [] one = subst (λ (s : List ℕ). BytesAdded before mid s one) empty first in
    let from_all : BytesAdded (Some all) mid [] one =
    subst (λ (x : Option (List ℕ)). BytesAdded x mid [] one) known from_none in
    (from_all, counted 4 all one mid (left_of all one mid (bytes_read (Some all) mid one from_all)) e b)

-- the length, and then as many bytes as it says
pub take_front : (all start one two : List ℕ) (before mid after : Option (List ℕ)) (size : ℕ) → before ≡ Some all
    → start ≡ [] → BytesAdded before mid start one → (length one ≡ 4) ⊎ IsAtEnd mid → length one ≤ 4
    → size ≡ declared_length one → BytesAdded mid after one two → (length two ≡ size) ⊎ IsAtEnd after → length two ≤ size
    → two ≡ declared_prefix all
take_front all start one two before mid after size known empty first e b says second f c =
    let mark = length_first all start one before mid known empty first e b in
    let r = left_of all two after (took_whole (Some all) mid after one two mark.0 second) in
    counted size all two after r f c ∙ ap (λ (k : ℕ). take k all) (says ∙ ap declared_length mark.1)

-- fewer bytes than a length are all
pub take_short : (all start one : List ℕ) (before mid : Option (List ℕ)) → before ≡ Some all → start ≡ []
    → BytesAdded before mid start one → (length one ≡ 4) ⊎ IsAtEnd mid → length one ≤ 4 → length one < 4
    → one ≡ declared_prefix all
take_short all start one before mid known empty first (inl e) b few = absurd (omega (arith, e, few))
take_short all start one before mid known empty first (inr end) b few =
    let mark = length_first all start one before mid known empty first (inr end) b in
    let l = left_of all one mid (bytes_read (Some all) mid one mark.0) in
    let whole : all ≡ one = l.parts ∙ ap (λ (r : List ℕ). one ++ r) (l.none end) ∙ append-nil one in
    let long : length one ≤ declared_length one = least (length one) (read_length one) in
    sym (ap (λ (k : ℕ). take k all) (sym (ap declared_length mark.1)) ∙ ap (take (declared_length one)) whole
    ∙ take_all (declared_length one) one long)

pub on_three : {X E A B C D : Type 0} (r : Result X E) → OnOk r A → OnOk r B → OnOk r C → (A → B → C → D) → OnOk r D
on_three (Ok x) a b c f = f a b c
on_three (Err e) a b c f = tt

-- where something came, something is there
pub on_some : {X E : Type 0} (r : Result X E) (before after : Option (List ℕ)) (one two : List ℕ) (P : Type 0)
    → OnOk r (BytesAdded before after one two) → 4 ≤ length one → OnOk r (two ≡ [] → P)
on_some (Ok x) before after one two P t little_endian =
    λ nothing. absurd (omega (arith, little_endian, ap length nothing, ap length t.1, length-append one t.0))
on_some (Err e) before after one two P t little_endian = tt
