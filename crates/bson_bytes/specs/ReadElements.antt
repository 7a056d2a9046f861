-- What is read in the bytes of a document.
use Rattle.std.specs.Prelude.{◌≡◌, ℕ, List, length, Option, None, Some, Result, Ok, Err, cond}
use Rattle.std.specs.Str.{bytes_eq}
use Rattle.bson_model.specs.Value.{Value, Pairs, no_pairs, pair}
use Rattle.bson_bytes.specs.Fault.{◌>>=◌}
use Rattle.bson_bytes.specs.Reading.{read_elements, read_value_in, read_document_in, read_first_document}
use Rattle.bson_bytes.specs.declared.fault.Fault.{Fault}
use Rattle.bson_model.specs.declared.options.DuplicateKeys.TheVariants.{LastWins}

-- the pairs that were read, or none if reading fails
abbrev pub pairs_or_none : Result (Pairs × List ℕ) Fault → Pairs
pairs_or_none (Ok pairs_and_rest) = pairs_and_rest.0
pairs_or_none (Err fault) = no_pairs

-- what was read, without the bytes after it
abbrev pub without_rest : {A : Type 0} → (read_result : Result (A × List ℕ) Fault) → Result A Fault
without_rest read_result = read_result >>= λ value_and_rest. Ok value_and_rest.0

-- the elements at the front of the bytes, to the byte 0
abbrev pub elements_from_bytes : (depth : ℕ) → (bytes : List ℕ) → Result (Pairs × List ℕ) Fault
elements_from_bytes depth bytes =
    read_elements (read_value_in LastWins (read_document_in LastWins depth)) None (length bytes) bytes

-- the value of the last pair with the key, or this one if no pair has the key
abbrev pub last_value : (key : List ℕ) → (found_value : Option Value) → Pairs → Option Value
last_value key found_value no_pairs = found_value
last_value key found_value (pair first_key first_value other_pairs) =
    last_value key (cond (bytes_eq key first_key) (Some first_value) found_value) other_pairs

-- the bytes begin with these elements, and with the byte 0 after them
abbrev pub BeginsWithElements : (depth : ℕ) → (bytes : List ℕ) → Pairs → Type 0
BeginsWithElements depth bytes pairs = (rest : List ℕ) × (elements_from_bytes depth bytes ≡ Ok (pairs, rest))

-- the bytes begin with a document of these elements, in which a key may occur twice
abbrev pub BeginsWithDocument : (depth : ℕ) → (bytes : List ℕ) → Pairs → Type 0
BeginsWithDocument depth bytes pairs = (rest : List ℕ) × (read_first_document depth bytes ≡ Ok (pairs, rest))
