-- How bytes are appended, as a function that stops at the first cause: for the proofs. `Writing` has the bytes.
use Rattle.std.specs.Prelude.{ℕ, ◌+◌, ◌-◌, ◌^◌, List, [], ◌∷◌, ◌++◌, length, take, drop, Result, Ok, Err, Bool, cond}
use Rattle.std.specs.Prelude.{◌≡◌, is_none, nat_lt, ◌&&◌, decimal}
use Rattle.std.specs.Int.{w32}
use Rattle.bson_types.specs.declared.spec.ElementType.{ElementType}
use Rattle.bson_types.specs.BinarySubtypes.{subtype_byte}
use Rattle.bson_scalar.specs.Scalar.{Scalar, text, symbol, code, regex, binary, db_pointer}
use Rattle.bson_model.specs.Value.{Value, Values, no_values, value, Pairs, no_pairs, pair, scalar, code_scope, array}
use Rattle.bson_model.specs.Value.{document}
use Rattle.bson_bytes.specs.Grammar.{little_endian, text_bytes}
use Rattle.bson_bytes.specs.Reading.{split_at_nul}
use Rattle.bson_bytes.specs.Writing.{NoBytesCause, nul_in_key, nul_in_regex, too_long, scalar_bytes, subtyped_bytes}
use Rattle.bson_bytes.specs.Writing.{subtyped_size, regex_bytes, name_bytes, type_of}
use Rattle.bson_bytes.specs.declared.error.Error.{Error}
use Rattle.bson_bytes.specs.declared.error.Error.TheVariants as errors

abbrev pub PutResult : Type 0
PutResult = Result (List ℕ) NoBytesCause

abbrev pub then : PutResult → (put_next : List ℕ → PutResult) → PutResult
then (Ok output) put_next = put_next output
then (Err cause) put_next = Err cause

-- the bytes, if their length is allowed
abbrev pub put_if_size_fits : (size : ℕ) → (bytes output : List ℕ) → PutResult
put_if_size_fits size bytes output = cond (nat_lt size (2 ^ 31)) (Ok (output ++ bytes)) (Err too_long)

abbrev pub put_text : (content output : List ℕ) → PutResult
put_text content output = put_if_size_fits (length content + 1) (text_bytes content) output

-- whether no byte is 0
abbrev pub has_no_nul : (bytes : List ℕ) → Bool
has_no_nul bytes = is_none (split_at_nul bytes)

abbrev pub put_regex : (pattern options output : List ℕ) → PutResult
put_regex pattern options output =
    cond (has_no_nul pattern && has_no_nul options) (Ok (output ++ regex_bytes pattern options)) (Err nul_in_regex)

abbrev pub put_binary : (subtype : ℕ) → (bytes output : List ℕ) → PutResult
put_binary subtype bytes output = put_if_size_fits (subtyped_size subtype bytes) (subtyped_bytes subtype bytes) output

abbrev pub put_pointer : (namespace id output : List ℕ) → PutResult
put_pointer namespace id output = then (put_text namespace output) (λ after_namespace. Ok (after_namespace ++ id))

abbrev pub put_scalar : Scalar → (output : List ℕ) → PutResult
put_scalar (text content) output = put_text content output
put_scalar (symbol content) output = put_text content output
put_scalar (code content) output = put_text content output
put_scalar (regex pattern options) output = put_regex pattern options output
put_scalar (binary subtype bytes) output = put_binary (subtype_byte subtype) bytes output
put_scalar (db_pointer namespace id) output = put_pointer namespace id output
put_scalar other_scalar output = Ok (output ++ scalar_bytes other_scalar)

-- the tag and the name of an element
abbrev pub put_name : ElementType → (name output : List ℕ) → PutResult
put_name element_type name output =
    cond (has_no_nul name) (Ok (output ++ name_bytes element_type name)) (Err nul_in_key)

-- four bytes, for a length that is not known yet
abbrev pub put_length_placeholder : (output : List ℕ) → List ℕ
put_length_placeholder output = output ++ 0 ∷ 0 ∷ 0 ∷ 0 ∷ []

-- the length of the bytes from this position on, written into the first four of them
unfoldable pub put_length : (length_start : ℕ) → (output : List ℕ) → PutResult
put_length length_start output =
    cond (nat_lt (length output - length_start) (2 ^ 31))
    (Ok (take length_start output
    ++ (little_endian w32 (length output - length_start) ++ drop (length_start + 4) output))) (Err too_long)

-- the 0 after a list of elements, and the length of the document
abbrev pub put_nul_and_length : (length_start : ℕ) → (output : List ℕ) → PutResult
put_nul_and_length length_start output = put_length length_start (output ++ 0 ∷ [])

unfoldable mutual
  pub put_value : Value → (output : List ℕ) → PutResult
  put_value (scalar scalar_value) output = put_scalar scalar_value output
  put_value (code_scope content scope) output =
      then (then (put_text content (put_length_placeholder output))
      (λ after_code.
      then (put_elements scope (put_length_placeholder after_code)) (put_nul_and_length (length after_code))))
      (put_length (length output))
  put_value (array values) output =
      then (put_array_elements 0 values (put_length_placeholder output)) (put_nul_and_length (length output))
  put_value (document pairs) output =
      then (put_elements pairs (put_length_placeholder output)) (put_nul_and_length (length output))

  pub put_array_elements : (index : ℕ) → Values → (output : List ℕ) → PutResult
  put_array_elements index no_values output = Ok output
  put_array_elements index (value first_value other_values) output =
      then (put_value first_value (output ++ name_bytes (type_of first_value) (decimal index)))
      (λ after_value. put_array_elements (index + 1) other_values after_value)

  pub put_elements : Pairs → (output : List ℕ) → PutResult
  put_elements no_pairs output = Ok output
  put_elements (pair key first_value other_pairs) output =
      then (put_name (type_of first_value) key output)
      (λ after_name. then (put_value first_value after_name) (λ after_value. put_elements other_pairs after_value))

abbrev pub put_document : Pairs → (output : List ℕ) → PutResult
put_document pairs output =
    then (put_elements pairs (put_length_placeholder output)) (put_nul_and_length (length output))

-- ---- what a function that appends returns

-- appending stops for the cause that the error says, unless memory ran out
abbrev pub StopsFor : Error → (put_result : PutResult) → Type 0
StopsFor errors.OutOfMemory put_result = Unit {0}
StopsFor errors.Key put_result = put_result ≡ Err nul_in_key
StopsFor errors.Regex put_result = put_result ≡ Err nul_in_regex
StopsFor errors.Size put_result = put_result ≡ Err too_long

-- these bytes are the result of appending, unless memory ran out
abbrev pub PutsBytes : {Returned : Type 0} → Result Returned Error → (new_bytes : List ℕ) → (put_result : PutResult)
    → Type 0
PutsBytes (Ok returned) new_bytes put_result = put_result ≡ Ok new_bytes
PutsBytes (Err error) new_bytes put_result = StopsFor error put_result
