-- Values that are compared and hashed. `HasValue` says which value an input has: MeansUnder of a text, IsDocumentUnder of the
-- bytes of a document.
use Rattle.std.specs.Prelude.{◌≡◌, ◌⊎◌, ℕ, List, Bool, true, false, fold}
use Rattle.std.specs.Hash.DefaultHasher as siphash
use Rattle.bson_model.specs.HashInput.{sorted_hash_input}
use Rattle.bson_model.specs.Same.{same}
use Rattle.bson_model.specs.Value.{Value}

-- each input has a value, and the two values are the same, or not
pub record InputsCompareAs (HasValue : List ℕ → Value
    → Type 0) (left_input right_input : List ℕ) (are_same : Bool) : Type 0 where
  pub left_value : Value
  pub right_value : Value
  pub left_has_value : HasValue left_input left_value
  pub right_has_value : HasValue right_input right_value
  pub compared : same left_value right_value ≡ are_same

-- the first input is rejected for the cause, or has a value and the second is rejected
abbrev pub RejectsEither : (HasValue : List ℕ → Value → Type 0) → (cause : List ℕ → Type 0)
    → (left_input right_input : List ℕ) → Type 0
RejectsEither HasValue cause left_input right_input = cause left_input
    ⊎ ((value : Value) × HasValue left_input value × cause right_input)

-- the status for whether two values are the same
abbrev pub comparison_status : (are_same : Bool) → ℕ
comparison_status true = 0
comparison_status false = 9

-- the hash of the value's hasher input by SipHash-1-3 with both keys 0
abbrev pub hash_of : Value → ℕ
hash_of value = siphash.finish (fold siphash.write siphash.initial (sorted_hash_input value))

-- the number is the hash of the value that the input has, and of each value that is the same
pub record IsHashOf (HasValue : List ℕ → Value → Type 0) (input : List ℕ) (hash_number : ℕ) : Type 0 where
  pub value : Value
  pub has_value : HasValue input value
  pub hash : hash_number ≡ hash_of value
  pub equal_values_hash_alike : (equal_value : Value) → same value equal_value ≡ true
      → hash_of equal_value ≡ hash_number
