-- What was read leaves no more bytes than there were, and a fault is in those bytes or at their end.
use Rattle.std.proofs.Common.{◌≡◌, ℕ, zero, suc, ◌+◌, ◌-◌, ◌^◌, ◌≤◌, Bool, true, false, cond, ltb, eqb, List, [], ◌∷◌, length}
use Rattle.std.proofs.Common.{take, drop, Option, Some, None, Result, Ok, Err, refl, subst, ap, arith}
use Rattle.std.specs.Int.{Width, w32, w64, byte_len, from_le_bytes, cast_signed}
use Rattle.std.specs.Str.{is_utf8}
use Rattle.std.proofs.lemmas.List.{length-append, length-drop}
use Rattle.bson_types.specs.declared.spec.ElementType.{ElementType}
use Rattle.bson_types.specs.declared.spec.ElementType.TheVariants as tag
use Rattle.bson_types.specs.BinarySubtypes.{subtype_of}
use Rattle.bson_scalar.specs.Scalar as kind
use Rattle.bson_model.specs.Value.{Value, Pairs, no_pairs, pair, scalar, code_scope, array, document}
use Rattle.bson_bytes.specs.declared.fault.Fault.{Fault}
use Rattle.bson_bytes.specs.declared.fault.FaultKind.{FaultKind}
use Rattle.bson_bytes.specs.declared.fault.FaultKind.TheVariants.{Short, Length, Tag, Utf8, Boolean, End}
use Rattle.bson_bytes.specs.declared.fault.FaultKind.TheVariants.{Trailing, DuplicateKey}
use Rattle.bson_model.specs.declared.options.DuplicateKeys.{DuplicateKeys}
use Rattle.bson_bytes.specs.Fault.{fault_at, ◌>>=◌, some_or_fault}
use Rattle.bson_bytes.specs.Grammar.{deduplicated_onto, pair_values}
use Rattle.bson_bytes.specs.Reading.{read_byte, read_bytes, read_integer, read_length, read_nul, split_at_nul, check_utf8, read_name}
use Rattle.bson_bytes.specs.Reading.{read_string, read_old_binary, read_plain_binary, read_binary, read_boolean, read_regex}
use Rattle.bson_bytes.specs.Reading.{read_pointer, read_timestamp, map_pairs_read, insert_pairs_read, read_code_with_scope, read_value_in, read_elements, check_length}
use Rattle.bson_bytes.specs.Reading.{read_document_in, reads_bytes_in, EarlierKeys, no_earlier_keys, add_earlier_key, is_new_key, read_key}
use Rattle.bson_bytes.specs.TypeTags.{type_of_tag}
use Rattle.bson_bytes.proofs.PartLaws.{split_takes}

-- no more than n by size is left, or the fault is at most n before the end
abbrev pub Within : {A : Type 0} → (A → ℕ) → ℕ → Result A Fault → Type 0
Within size n (Ok x) = size x ≤ n
Within size n (Err f) = f.bytes_to_end ≤ n

abbrev pub left_by : {A : Type 0} → A × List ℕ → ℕ
left_by x = length x.1

abbrev pub none : {A : Type 0} → A → ℕ
none x = 0

-- ---- steps

step : {A B : Type 0} (size : A → ℕ) (goal : B → ℕ) (n : ℕ) (r : Result A Fault) (f : A → Result B Fault)
    → Within size n r → ((x : A) → size x ≤ n → Within goal n (f x)) → Within goal n (r >>= f)
step size goal n (Ok x) f h g = g x h
step size goal n (Err e) f h g = h

either_way : {A : Type 0} (size : A → ℕ) (n : ℕ) (b : Bool) (r q : Result A Fault) → Within size n r
    → Within size n q → Within size n (cond b r q)
either_way size n true r q h g = h
either_way size n false r q h g = g

-- what was read, by f
onto : {A B : Type 0} (n : ℕ) (r : Result (A × List ℕ) Fault) (f : A → B) → Within left_by n r
    → Within left_by n (r >>= λ x. Ok (f x.0, x.1))
onto n (Ok x) f h = h
onto n (Err e) f h = h

or_within : {A : Type 0} (size : A → ℕ) (n : ℕ) (o : Option A) (w : FaultKind) (bytes : List ℕ) → length bytes ≤ n
    → ((x : A) → o ≡ Some x → size x ≤ n) → Within size n (some_or_fault o w bytes)
or_within size n (Some x) w bytes little_endian h = h x refl
or_within size n None w bytes little_endian h = little_endian

-- ---- parts

byte_within : (n : ℕ) (bytes : List ℕ) → length bytes ≤ n → Within left_by n (read_byte bytes)
byte_within n [] little_endian = little_endian
byte_within n (b ∷ bytes) little_endian = omega (arith, little_endian)

bytes_within : (n k : ℕ) (bytes : List ℕ) → length bytes ≤ n → Within left_by n (read_bytes k bytes)
bytes_within n k bytes little_endian =
    either_way left_by n (ltb (length bytes) k) (Err (fault_at Short bytes)) (Ok (take k bytes, drop k bytes)) little_endian
    (omega (arith, little_endian, length-drop k bytes))

number_within : (n : ℕ) (w : Width) (bytes : List ℕ) → length bytes ≤ n → Within left_by n (read_integer w bytes)
number_within n w bytes little_endian =
    either_way left_by n (ltb (length bytes) (byte_len w)) (Err (fault_at Short bytes))
    (Ok (from_le_bytes w (take (byte_len w) bytes), drop (byte_len w) bytes)) little_endian
    (omega (arith, little_endian, length-drop (byte_len w) bytes))

size_within : (n : ℕ) (bytes : List ℕ) → length bytes ≤ n → Within left_by n (read_length bytes)
unfolding read_length
size_within n bytes little_endian =
    step left_by left_by n (read_integer w32 bytes) (λ k. cond (ltb k.0 (2 ^ 31)) (Ok k) (Err (fault_at Length bytes)))
    (number_within n w32 bytes little_endian)
    (λ k h. either_way left_by n (ltb k.0 (2 ^ 31)) (Ok k) (Err (fault_at Length bytes)) h little_endian)

zero_within : (n : ℕ) (bytes : List ℕ) → length bytes ≤ n → Within length n (read_nul bytes)
zero_within n [] little_endian = little_endian
zero_within n (b ∷ bytes) little_endian =
    either_way length n (eqb b 0) (Ok bytes) (Err (fault_at End (b ∷ bytes))) (omega (arith, little_endian)) little_endian

utf8_within : (n : ℕ) (s bytes : List ℕ) → length bytes ≤ n → Within none n (check_utf8 s bytes)
utf8_within n s bytes little_endian = either_way none n (is_utf8 s) (Ok s) (Err (fault_at Utf8 bytes)) (omega arith) little_endian

split_shorter : (bytes : List ℕ) (p : List ℕ × List ℕ) → split_at_nul bytes ≡ Some p → length p.1 ≤ length bytes
split_shorter bytes p e =
    omega (arith, ap length (split_takes bytes p.0 p.1 e).1, length-append p.0 (0 ∷ p.1))

name_within : (n : ℕ) (bytes : List ℕ) → length bytes ≤ n → Within left_by n (read_name bytes)
unfolding read_name
name_within n bytes little_endian =
    step left_by left_by n (some_or_fault (split_at_nul bytes) Short bytes) (λ p. check_utf8 p.0 bytes >>= λ s. Ok (s, p.1))
    (or_within left_by n (split_at_nul bytes) Short bytes little_endian (λ p e. omega (arith, little_endian, split_shorter bytes p e)))
    (λ p h. step none left_by n (check_utf8 p.0 bytes) (λ s. Ok (s, p.1)) (utf8_within n p.0 bytes little_endian) (λ s i. h))

key_within : (n : ℕ) (before : EarlierKeys) (bytes : List ℕ) → length bytes ≤ n → Within left_by n (read_key before bytes)
key_within n None bytes little_endian = name_within n bytes little_endian
key_within n (Some ks) bytes little_endian =
    step left_by left_by n (read_name bytes) (λ s. cond (is_new_key s.0 ks) (Ok s) (Err (fault_at DuplicateKey bytes)))
    (name_within n bytes little_endian)
    (λ s h. either_way left_by n (is_new_key s.0 ks) (Ok s) (Err (fault_at DuplicateKey bytes)) h little_endian)

text_within : (n : ℕ) (bytes : List ℕ) → length bytes ≤ n → Within left_by n (read_string bytes)
unfolding read_string
text_within n bytes little_endian =
    let held = λ (k : ℕ × List ℕ).
    read_bytes (k.0 - 1) k.1 >>= λ s. read_nul s.1 >>= λ rest. check_utf8 s.0 k.1 >>= λ t. Ok (t, rest) in
    step left_by left_by n (read_length bytes) (λ k. cond (eqb k.0 0) (Err (fault_at Length bytes)) (held k)) (size_within n bytes little_endian)
    (λ k h. either_way left_by n (eqb k.0 0) (Err (fault_at Length bytes)) (held k) little_endian
    (step left_by left_by n (read_bytes (k.0 - 1) k.1)
    (λ s. read_nul s.1 >>= λ rest. check_utf8 s.0 k.1 >>= λ t. Ok (t, rest)) (bytes_within n (k.0 - 1) k.1 h)
    (λ s i. step length left_by n (read_nul s.1) (λ rest. check_utf8 s.0 k.1 >>= λ t. Ok (t, rest)) (zero_within n s.1 i)
    (λ rest j. step none left_by n (check_utf8 s.0 k.1) (λ t. Ok (t, rest)) (utf8_within n s.0 k.1 h) (λ t u. j)))))

-- ---- values of several parts

old_binary_within : (n size : ℕ) (bytes : List ℕ) → length bytes ≤ n → Within left_by n (read_old_binary size bytes)
old_binary_within n size bytes little_endian =
    let held = λ (k : ℕ × List ℕ). read_bytes k.0 k.1 >>= λ s. Ok (scalar (kind.binary (subtype_of 2) s.0), s.1) in
    step left_by left_by n (read_length bytes) (λ k. cond (eqb (k.0 + 4) size) (held k) (Err (fault_at Length bytes)))
    (size_within n bytes little_endian)
    (λ k h. either_way left_by n (eqb (k.0 + 4) size) (held k) (Err (fault_at Length bytes))
    (onto n (read_bytes k.0 k.1) (λ s. scalar (kind.binary (subtype_of 2) s)) (bytes_within n k.0 k.1 h)) little_endian)

binary_within : (n : ℕ) (bytes : List ℕ) → length bytes ≤ n → Within left_by n (read_binary bytes)
unfolding read_binary
binary_within n bytes little_endian =
    let held = λ (k b : ℕ × List ℕ). cond (eqb b.0 2) (read_old_binary k.0 b.1) (read_plain_binary b.0 k.0 b.1) in
    step left_by left_by n (read_length bytes) (λ k. read_byte k.1 >>= held k) (size_within n bytes little_endian)
    (λ k h. step left_by left_by n (read_byte k.1) (held k) (byte_within n k.1 h)
    (λ b i. either_way left_by n (eqb b.0 2) (read_old_binary k.0 b.1) (read_plain_binary b.0 k.0 b.1)
    (old_binary_within n k.0 b.1 i)
    (onto n (read_bytes k.0 b.1) (λ s. scalar (kind.binary (subtype_of b.0) s)) (bytes_within n k.0 b.1 i))))

boolean_within : (n : ℕ) (bytes : List ℕ) → length bytes ≤ n → Within left_by n (read_boolean bytes)
unfolding read_boolean
boolean_within n bytes little_endian =
    let yes = λ (b : ℕ × List ℕ). cond (eqb b.0 1) (Ok (scalar (kind.boolean true), b.1)) (Err (fault_at Boolean bytes)) in
    step left_by left_by n (read_byte bytes) (λ b. cond (eqb b.0 0) (Ok (scalar (kind.boolean false), b.1)) (yes b))
    (byte_within n bytes little_endian)
    (λ b h. either_way left_by n (eqb b.0 0) (Ok (scalar (kind.boolean false), b.1)) (yes b) h
    (either_way left_by n (eqb b.0 1) (Ok (scalar (kind.boolean true), b.1)) (Err (fault_at Boolean bytes)) h little_endian))

regex_within : (n : ℕ) (bytes : List ℕ) → length bytes ≤ n → Within left_by n (read_regex bytes)
unfolding read_regex
regex_within n bytes little_endian =
    step left_by left_by n (read_name bytes) (λ p. read_name p.1 >>= λ o. Ok (scalar (kind.regex p.0 o.0), o.1))
    (name_within n bytes little_endian) (λ p h. onto n (read_name p.1) (λ o. scalar (kind.regex p.0 o)) (name_within n p.1 h))

pointer_within : (n : ℕ) (bytes : List ℕ) → length bytes ≤ n → Within left_by n (read_pointer bytes)
unfolding read_pointer
pointer_within n bytes little_endian =
    step left_by left_by n (read_string bytes) (λ s. read_bytes 12 s.1 >>= λ id. Ok (scalar (kind.db_pointer s.0 id.0), id.1))
    (text_within n bytes little_endian)
    (λ s h. onto n (read_bytes 12 s.1) (λ id. scalar (kind.db_pointer s.0 id)) (bytes_within n 12 s.1 h))

timestamp_within : (n : ℕ) (bytes : List ℕ) → length bytes ≤ n → Within left_by n (read_timestamp bytes)
unfolding read_timestamp
timestamp_within n bytes little_endian =
    step left_by left_by n (read_integer w32 bytes) (λ i. read_integer w32 i.1 >>= λ t. Ok (scalar (kind.timestamp t.0 i.0), t.1))
    (number_within n w32 bytes little_endian)
    (λ i h. onto n (read_integer w32 i.1) (λ t. scalar (kind.timestamp t i.0)) (number_within n w32 i.1 h))

-- ---- documents

abbrev DocumentWithin : DuplicateKeys → ℕ → Type 0
DocumentWithin keys d = (before : EarlierKeys) (n : ℕ) (bytes : List ℕ) → length bytes ≤ n
    → Within left_by n (read_document_in keys d before bytes)

scope_within : (keys : DuplicateKeys) (d : ℕ) → DocumentWithin keys d → (n : ℕ) (bytes : List ℕ) → length bytes ≤ n
    → Within left_by n (read_code_with_scope (read_document_in keys d (no_earlier_keys keys)) bytes)
unfolding read_code_with_scope
scope_within keys d doc n bytes little_endian =
    let held = λ (k : ℕ × List ℕ) (s : List ℕ × List ℕ) (x : Pairs × List ℕ).
    cond (eqb (k.0 + length x.1) (length bytes)) (Ok (code_scope s.0 x.0, x.1)) (Err (fault_at Length bytes)) in
    step left_by left_by n (read_length bytes) (λ k. read_string k.1 >>= λ s. insert_pairs_read no_pairs (read_document_in keys d (no_earlier_keys keys) s.1) >>= held k s)
    (size_within n bytes little_endian)
    (λ k h. step left_by left_by n (read_string k.1) (λ s. insert_pairs_read no_pairs (read_document_in keys d (no_earlier_keys keys) s.1) >>= held k s)
    (text_within n k.1 h)
    (λ s i. step left_by left_by n (insert_pairs_read no_pairs (read_document_in keys d (no_earlier_keys keys) s.1)) (held k s)
    (onto n (read_document_in keys d (no_earlier_keys keys) s.1) (deduplicated_onto no_pairs) (doc (no_earlier_keys keys) n s.1 i))
    (λ x j. either_way left_by n (eqb (k.0 + length x.1) (length bytes)) (Ok (code_scope s.0 x.0, x.1))
    (Err (fault_at Length bytes)) j little_endian)))

value_within : (keys : DuplicateKeys) (d : ℕ) → DocumentWithin keys d → (t : ElementType) (n : ℕ) (bytes : List ℕ) → length bytes ≤ n
    → Within left_by n (read_value_in keys (read_document_in keys d) t bytes)
unfolding read_value_in
value_within keys d doc tag.Double n bytes little_endian =
    onto n (read_integer w64 bytes) (λ k. scalar (kind.double k)) (number_within n w64 bytes little_endian)
value_within keys d doc tag.String n bytes little_endian = onto n (read_string bytes) (λ s. scalar (kind.text s)) (text_within n bytes little_endian)
value_within keys d doc tag.EmbeddedDocument n bytes little_endian =
    onto n (insert_pairs_read no_pairs (read_document_in keys d (no_earlier_keys keys) bytes)) (λ ps. document ps)
    (onto n (read_document_in keys d (no_earlier_keys keys) bytes) (deduplicated_onto no_pairs) (doc (no_earlier_keys keys) n bytes little_endian))
value_within keys d doc tag.Array n bytes little_endian =
    onto n (map_pairs_read pair_values (read_document_in keys d None bytes)) (λ vs. array vs)
    (onto n (read_document_in keys d None bytes) pair_values (doc None n bytes little_endian))
value_within keys d doc tag.Binary n bytes little_endian = binary_within n bytes little_endian
value_within keys d doc tag.Undefined n bytes little_endian = little_endian
value_within keys d doc tag.ObjectId n bytes little_endian =
    onto n (read_bytes 12 bytes) (λ s. scalar (kind.object_id s)) (bytes_within n 12 bytes little_endian)
value_within keys d doc tag.Boolean n bytes little_endian = boolean_within n bytes little_endian
value_within keys d doc tag.DateTime n bytes little_endian =
    onto n (read_integer w64 bytes) (λ k. scalar (kind.date (cast_signed w64 k))) (number_within n w64 bytes little_endian)
value_within keys d doc tag.Null n bytes little_endian = little_endian
value_within keys d doc tag.RegularExpression n bytes little_endian = regex_within n bytes little_endian
value_within keys d doc tag.DbPointer n bytes little_endian = pointer_within n bytes little_endian
value_within keys d doc tag.JavaScriptCode n bytes little_endian =
    onto n (read_string bytes) (λ s. scalar (kind.code s)) (text_within n bytes little_endian)
value_within keys d doc tag.Symbol n bytes little_endian = onto n (read_string bytes) (λ s. scalar (kind.symbol s)) (text_within n bytes little_endian)
value_within keys d doc tag.JavaScriptCodeWithScope n bytes little_endian = scope_within keys d doc n bytes little_endian
value_within keys d doc tag.Int32 n bytes little_endian =
    onto n (read_integer w32 bytes) (λ k. scalar (kind.int32 (cast_signed w32 k))) (number_within n w32 bytes little_endian)
value_within keys d doc tag.Timestamp n bytes little_endian = timestamp_within n bytes little_endian
value_within keys d doc tag.Int64 n bytes little_endian =
    onto n (read_integer w64 bytes) (λ k. scalar (kind.int64 (cast_signed w64 k))) (number_within n w64 bytes little_endian)
value_within keys d doc tag.Decimal128 n bytes little_endian =
    onto n (read_bytes 16 bytes) (λ s. scalar (kind.decimal s)) (bytes_within n 16 bytes little_endian)
value_within keys d doc tag.MaxKey n bytes little_endian = little_endian
value_within keys d doc tag.MinKey n bytes little_endian = little_endian

list_within : (keys : DuplicateKeys) (d : ℕ) → DocumentWithin keys d → (before : EarlierKeys) (m n : ℕ) (bytes : List ℕ) → length bytes ≤ n
    → Within left_by n (read_elements (read_value_in keys (read_document_in keys d)) before m bytes)
unfolding read_elements
list_within keys d doc before zero n bytes little_endian = little_endian
list_within keys d doc before (suc m) n bytes little_endian =
    let element = read_value_in keys (read_document_in keys d) in
    let others = λ (s : List ℕ × List ℕ) (v : Value × List ℕ).
    read_elements element (add_earlier_key s.0 before) m v.1 >>= λ x. Ok (pair s.0 v.0 x.0, x.1) in
    let named = λ (t : ℕ × List ℕ) (k : ElementType). read_key before t.1 >>= λ s. element k s.1 >>= others s in
    let typed = λ (t : ℕ × List ℕ). some_or_fault (type_of_tag t.0) Tag bytes >>= named t in
    step left_by left_by n (read_byte bytes) (λ t. cond (eqb t.0 0) (Ok (no_pairs, t.1)) (typed t)) (byte_within n bytes little_endian)
    (λ t h. either_way left_by n (eqb t.0 0) (Ok (no_pairs, t.1)) (typed t) h
    (step none left_by n (some_or_fault (type_of_tag t.0) Tag bytes) (named t)
    (or_within none n (type_of_tag t.0) Tag bytes little_endian (λ k e. omega arith))
    (λ k z. step left_by left_by n (read_key before t.1) (λ s. element k s.1 >>= others s) (key_within n before t.1 h)
    (λ s i. step left_by left_by n (element k s.1) (others s) (value_within keys d doc k n s.1 i)
    (λ v j. onto n (read_elements element (add_earlier_key s.0 before) m v.1) (λ ps. pair s.0 v.0 ps) (list_within keys d doc (add_earlier_key s.0 before) m n v.1 j))))))

pub document_within : (keys : DuplicateKeys) (d : ℕ) (before : EarlierKeys) (n : ℕ) (bytes : List ℕ) → length bytes ≤ n
    → Within left_by n (read_document_in keys d before bytes)
unfolding read_document_in
document_within keys zero before n bytes little_endian = little_endian
document_within keys (suc d) before n bytes little_endian =
    let element = read_value_in keys (read_document_in keys d) in
    step left_by left_by n (read_length bytes) (λ k. read_elements element before (length k.1) k.1 >>= check_length k.0 bytes) (size_within n bytes little_endian)
    (λ k h. step left_by left_by n (read_elements element before (length k.1) k.1) (check_length k.0 bytes)
    (list_within keys d (document_within keys d) before (length k.1) n k.1 h)
    (λ x i. either_way left_by n (eqb (k.0 + length x.1) (length bytes)) (Ok x) (Err (fault_at Length bytes)) i little_endian))

settled_within : (keys : DuplicateKeys) (d : ℕ) (bytes : List ℕ)
    → Within left_by (length bytes) (insert_pairs_read no_pairs (read_document_in keys d (no_earlier_keys keys) bytes))
settled_within keys d bytes =
    onto (length bytes) (read_document_in keys d (no_earlier_keys keys) bytes) (deduplicated_onto no_pairs)
    (document_within keys d (no_earlier_keys keys) (length bytes) bytes (omega arith))

-- ---- the place of a fault

placed : {A : Type 0} (size : A → ℕ) (n : ℕ) (r : Result A Fault) (f : Fault) → Within size n r → r ≡ Err f → f.bytes_to_end ≤ n
placed size n r f h e = subst (Within size n) e h

pub front_fault : (keys : DuplicateKeys) (d : ℕ) (bytes : List ℕ) (f : Fault)
    → insert_pairs_read no_pairs (read_document_in keys d (no_earlier_keys keys) bytes) ≡ Err f → f.bytes_to_end ≤ length bytes
front_fault keys d bytes f e =
    placed left_by (length bytes) (insert_pairs_read no_pairs (read_document_in keys d (no_earlier_keys keys) bytes)) f
    (settled_within keys d bytes) e

pub fault_stands : (keys : DuplicateKeys) (d : ℕ) (bytes : List ℕ) (f : Fault) → reads_bytes_in keys d bytes ≡ Err f
    → f.bytes_to_end ≤ length bytes
unfolding reads_bytes_in
fault_stands keys d bytes f e =
    let n = length bytes in
    let read = insert_pairs_read no_pairs (read_document_in keys d (no_earlier_keys keys) bytes) in
    let test = λ (x : Pairs × List ℕ). cond (eqb (length x.1) 0) (Ok x.0) (Err (fault_at Trailing x.1)) in
    placed none n (read >>= test) f
    (step left_by none n read test (settled_within keys d bytes)
    (λ x h. either_way none n (eqb (length x.1) 0) (Ok x.0) (Err (fault_at Trailing x.1)) (omega arith) h)) e
