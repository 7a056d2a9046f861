-- Elements in their bytes. The number is how deep documents, arrays and scopes may nest in a value.
use Rattle.std.specs.Prelude.{◌≡◌, ℕ, ◌-◌, List, Option, None, Some, Ok, true, length, drop}
use Rattle.std.specs.Str.{is_utf8}
use Rattle.bson_model.specs.Value.{Value, Pairs, no_pairs, pair}
use Rattle.bson_bytes.specs.Reading.{read_value_in, read_document_in}
use Rattle.bson_model.specs.declared.options.DuplicateKeys.TheVariants.{LastWins}
use Rattle.bson_bytes.specs.ReadElements.{BeginsWithElements}
use Rattle.bson_bytes.specs.declared.raw_element.RawElement.{RawElement}

-- the number of bytes of the element's value
abbrev pub value_length : RawElement → ℕ
value_length element = length element.value.now - length element.rest.now

-- so many bytes are read as this value
abbrev pub HasValue : (depth : ℕ) → RawElement → Value → Type 0
HasValue depth element value =
    read_value_in LastWins (read_document_in LastWins depth) element.kind element.value.now
    ≡ Ok (value, drop (value_length element) element.value.now)

-- the element is the first of these, and the bytes after it begin with the others
pub record IsElement (depth : ℕ) (element : RawElement) (element_pairs : Pairs) : Type 0 where
  pub value : Value
  pub later_pairs : Pairs
  pub pairs : element_pairs ≡ pair element.key.now value later_pairs
  pub utf8 : is_utf8 element.key.now ≡ true
  pub read : HasValue depth element value
  pub later_elements : BeginsWithElements depth element.rest.now later_pairs

-- there is no element, or the first is this one
abbrev pub IsFirstElement : (depth : ℕ) → Option RawElement → Pairs → Type 0
IsFirstElement depth None element_pairs = element_pairs ≡ no_pairs
IsFirstElement depth (Some element) element_pairs = IsElement depth element element_pairs

-- there is no value, or it is the value of this element
abbrev pub IsValueOfElement : (depth : ℕ) → Option RawElement → (found_value : Option Value) → Type 0
IsValueOfElement depth None found_value = found_value ≡ None
IsValueOfElement depth (Some element) found_value =
    (value : Value) × (found_value ≡ Some value) × HasValue depth element value

-- ---- for private clauses

-- no bytes are kept and there is no value, or the bytes begin with elements of which the first has the value
abbrev pub IsValueOfFirstElement : (depth : ℕ) → (bytes : Option (List ℕ)) → (found_value : Option Value) → Type 0
IsValueOfFirstElement depth None found_value = found_value ≡ None
IsValueOfFirstElement depth (Some bytes) found_value = (key : List ℕ) × (value : Value) × (other_pairs : Pairs)
    × (found_value ≡ Some value) × BeginsWithElements depth bytes (pair key value other_pairs)
