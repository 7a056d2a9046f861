-- The output and the diagnostics of a run are UTF-8.
use Rattle.std.proofs.Common.{◌+◌, ◌/◌, ◌%◌, ◌<◌, ◌==◌, ◌&&◌, ℕ, zero, suc, Bool, true, false, cond, List, [], ◌∷◌, ◌≡◌, Option, None, Some}
use Rattle.std.proofs.Common.{codes, nat_lt, mod-lt, refl, ap, arith}
use Rattle.std.specs.Prelude.{IsUtf8}
use Rattle.std.specs.Fmt.{decimal, digits, digits_onto}
use Rattle.std.proofs.lemmas.Str.{IsUtf8-append, IsUtf8-nil}
use Rattle.json.proofs.Printed.Utf8.{IsUtf8-are_ascii, IsUtf8-key, IsUtf8-quoted, IsUtf8-separator, are_ascii}
use Rattle.json.specs.Print.{ends, print_from, token_text}
use Rattle.json.specs.Token as token
use Rattle.json.specs.Token.{Token}
use Rattle.std.proofs.lemmas.Bool.{lt-ltb}
use Rattle.bson_bytes.specs.declared.fault.FaultKind.{FaultKind}
use Rattle.bson_bytes.specs.declared.fault.FaultKind.TheVariants as kind
use Rattle.bson_codec.specs.DumpRuns.{Dump, none, written, skipped_document}
use Rattle.bson_codec.specs.Diagnostics.{diagnostic_of, document_tokens, error_offset_of, fault_kind_message, full_message, line_feed}
use Rattle.bson_codec.specs.Diagnostics.{number_or_null, run_fault_code}
use Rattle.bson_codec.specs.declared.diagnostic.DiagnosticFormat.{DiagnosticFormat}
use Rattle.bson_codec.specs.declared.diagnostic.DiagnosticFormat.TheVariants.{Text, Json}
use Rattle.bson_codec.specs.declared.documents.Run.{Run}
use Rattle.bson_codec.specs.declared.run_end.RunFault.{RunFault}
use Rattle.bson_codec.specs.declared.run_end.RunFault.TheVariants.{Malformed, FiniteDouble, CannotRead, CannotWrite}
use Rattle.bson_codec.specs.declared.run_end.RunFault.TheVariants.{OutOfMemory}

digit_utf8 : (d : ℕ) → d < 10 → (b : Bool) → IsUtf8 (cond b (48 + d) (87 + d) ∷ [])
digit_utf8 d small true = IsUtf8-are_ascii ((48 + d) ∷ []) (ap (λ b. b && true) (lt-ltb (48 + d) 128 (omega (arith, small))))
digit_utf8 d small false = IsUtf8-are_ascii ((87 + d) ∷ []) (ap (λ b. b && true) (lt-ltb (87 + d) 128 (omega (arith, small))))

digits_utf8 : (k n : ℕ) (acc : List ℕ) → IsUtf8 acc → IsUtf8 (digits_onto k 10 false n acc)
digits_utf8 zero n acc u = u
digits_utf8 (suc k) n acc u =
    let more = IsUtf8-append _ acc (digit_utf8 (n % 10) (mod-lt n (omega arith)) (nat_lt (n % 10) 10)) u in
    by (n / 10 == 0) _ _ more (digits_utf8 k (n / 10) _ more)
  where
    by : (b : Bool) (xs ys : List ℕ) → IsUtf8 xs → IsUtf8 ys → IsUtf8 (cond b xs ys)
    by true xs ys p q = p
    by false xs ys p q = q

decimal_utf8 : (n : ℕ) → IsUtf8 (decimal n)
unfolding digits
decimal_utf8 n = digits_utf8 64 n [] IsUtf8-nil

kind_utf8 : (k : FaultKind) → IsUtf8 (fault_kind_message k)
kind_utf8 kind.Depth = IsUtf8-are_ascii (fault_kind_message kind.Depth) refl
kind_utf8 kind.Short = IsUtf8-are_ascii (fault_kind_message kind.Short) refl
kind_utf8 kind.Length = IsUtf8-are_ascii (fault_kind_message kind.Length) refl
kind_utf8 kind.Tag = IsUtf8-are_ascii (fault_kind_message kind.Tag) refl
kind_utf8 kind.End = IsUtf8-are_ascii (fault_kind_message kind.End) refl
kind_utf8 kind.Utf8 = IsUtf8-are_ascii (fault_kind_message kind.Utf8) refl
kind_utf8 kind.Boolean = IsUtf8-are_ascii (fault_kind_message kind.Boolean) refl
kind_utf8 kind.Trailing = IsUtf8-are_ascii (fault_kind_message kind.Trailing) refl
kind_utf8 kind.DuplicateKey = IsUtf8-are_ascii (fault_kind_message kind.DuplicateKey) refl

message_utf8 : (fault : RunFault) → IsUtf8 (full_message fault)
message_utf8 (Malformed k n) =
    IsUtf8-append _ _ (IsUtf8-append _ _ (kind_utf8 k) (IsUtf8-are_ascii (codes " at its byte ") refl)) (decimal_utf8 n)
message_utf8 FiniteDouble = IsUtf8-are_ascii (full_message FiniteDouble) refl
message_utf8 CannotRead = IsUtf8-are_ascii (full_message CannotRead) refl
message_utf8 CannotWrite = IsUtf8-are_ascii (full_message CannotWrite) refl
message_utf8 OutOfMemory = IsUtf8-are_ascii (full_message OutOfMemory) refl

-- ---- a JSON object

data AreUtf8 : List Token → Type 0 where
  no_token : AreUtf8 []
  one_more : {ts : List Token} (t : Token) → IsUtf8 (token_text t) → AreUtf8 ts → AreUtf8 (t ∷ ts)

print_utf8 : {ts : List Token} (after_value : Bool) → AreUtf8 ts → IsUtf8 (print_from after_value ts)
unfolding print_from
print_utf8 after_value no_token = IsUtf8-nil
print_utf8 after_value (one_more t u us) =
    IsUtf8-append _ _ (IsUtf8-separator after_value t) (IsUtf8-append _ _ u (print_utf8 (ends t) us))

member_utf8 : {ts : List Token} (name : List ℕ) (value : Token) → are_ascii name ≡ true → IsUtf8 (token_text value)
    → AreUtf8 ts → AreUtf8 (token.key name ∷ value ∷ ts)
member_utf8 name value ascii u us = one_more (token.key name) (IsUtf8-key name (IsUtf8-are_ascii name ascii)) (one_more value u us)

offset_utf8 : (offset : Option ℕ) → IsUtf8 (token_text (number_or_null offset))
offset_utf8 None = IsUtf8-are_ascii _ refl
offset_utf8 (Some n) = decimal_utf8 n

code_utf8 : (fault : RunFault) → IsUtf8 (run_fault_code fault)
code_utf8 (Malformed k n) = IsUtf8-are_ascii (codes "malformed") refl
code_utf8 FiniteDouble = IsUtf8-are_ascii (codes "finite_double") refl
code_utf8 CannotRead = IsUtf8-are_ascii (codes "cannot_read") refl
code_utf8 CannotWrite = IsUtf8-are_ascii (codes "cannot_write") refl
code_utf8 OutOfMemory = IsUtf8-are_ascii (codes "out_of_memory") refl

tokens_utf8 : (number start : ℕ) (fault : RunFault) → AreUtf8 (document_tokens number start fault)
tokens_utf8 number start fault =
    let end = one_more token.end_object (IsUtf8-are_ascii (token_text token.end_object) refl) no_token in
    let message = member_utf8 (codes "message") (token.string (full_message fault)) refl (IsUtf8-quoted _ (message_utf8 fault)) end in
    let code = member_utf8 (codes "code") (token.string (run_fault_code fault)) refl (IsUtf8-quoted _ (code_utf8 fault)) message in
    let offset = member_utf8 (codes "offset") (number_or_null (error_offset_of fault)) refl (offset_utf8 (error_offset_of fault)) code in
    let at = member_utf8 (codes "start") (token.number (decimal start)) refl (decimal_utf8 start) offset in
    let first = member_utf8 (codes "document") (token.number (decimal number)) refl (decimal_utf8 number) at in
    one_more token.begin_object (IsUtf8-are_ascii (token_text token.begin_object) refl) first

pub diagnostic_utf8 : (format : DiagnosticFormat) (number start : ℕ) (fault : RunFault)
    → IsUtf8 (diagnostic_of format number start fault)
diagnostic_utf8 Text number start fault =
    let first = IsUtf8-append _ _ (IsUtf8-are_ascii (codes "document ") refl) (decimal_utf8 number) in
    let at = IsUtf8-append _ _ first (IsUtf8-are_ascii (codes " at byte ") refl) in
    let placed = IsUtf8-append _ _ at (decimal_utf8 start) in
    let before = IsUtf8-append _ _ placed (IsUtf8-are_ascii (codes ": ") refl) in
    IsUtf8-append _ _ (IsUtf8-append _ _ before (message_utf8 fault)) (IsUtf8-are_ascii line_feed refl)
diagnostic_utf8 Json number start fault =
    IsUtf8-append _ _ (print_utf8 false (tokens_utf8 number start fault)) (IsUtf8-are_ascii line_feed refl)

pub dump_utf8 : {run : Run} {bytes output diagnostics_before : List ℕ} {number refused : ℕ} → Dump run bytes output diagnostics_before number refused
    → IsUtf8 output × IsUtf8 diagnostics_before
dump_utf8 none = (IsUtf8-nil, IsUtf8-nil)
dump_utf8 (written {output = output} bytes line d is) =
    let before = dump_utf8 d in (IsUtf8-append output line before.0 is.utf8, before.1)
dump_utf8 {run = run} (skipped_document {diagnostics = diagnostics_before} bytes fault d over bad) =
    let before = dump_utf8 d in (before.0, IsUtf8-append diagnostics_before _ before.1 (diagnostic_utf8 run.diagnostics _ _ fault))
