-- Why a tree is not valid Extended JSON, and what a function that reads it returns.
use Rattle.std.specs.Prelude.{◌≡◌, ℕ, List, Result, Ok, Err, Option, Some, None}
use Rattle.bson_types.specs.ObjectIdErrors.{IsOidError}
use Rattle.bson_types.specs.declared.oid.Error as oid
use Rattle.bson_types.specs.declared.oid.Error.TheVariants.{InvalidHexStringCharacter, InvalidHexStringLength}
use Rattle.bson_types.specs.declared.oid.Error.TheVariants as oid_error
use Rattle.bson_scalar.specs.declared.error.Error.{Error}
use Rattle.bson_scalar.specs.declared.error.Error.TheVariants.{InvalidObjectId, DeserializationError, OutOfMemory}

-- the shape is wrong; or the shape is right, and this text is no object id
pub data Fault : Type 0 where
  wrong_shape : Fault
  wrong_id : (id_text : List ℕ) → Fault

infixl 10 ◌>>=◌
abbrev pub ◌>>=◌ : {A B : Type 0} → Result A Fault → (A → Result B Fault) → Result B Fault
(Ok read_value) >>= next_step = next_step read_value
(Err read_error) >>= next_step = Err read_error

abbrev pub or_wrong_shape : {A : Type 0} → Option A → Result A Fault
or_wrong_shape (Some read_value) = Ok read_value
or_wrong_shape None = Err wrong_shape

-- the fault that the text has, which is never out of memory
abbrev pub IsIdFault : (id_text : List ℕ) → oid.Error → Type 0
IsIdFault id_text oid_error.OutOfMemory = ⊥
IsIdFault id_text read_error = IsOidError id_text read_error

-- What a function returned, seen by view, is what reading gives, unless memory ran out.
abbrev pub IsReadError : {Y : Type 0} → Error → Result Y Fault → Type 0
IsReadError OutOfMemory read_result = Unit {0}
IsReadError (DeserializationError message) read_result = read_result ≡ Err wrong_shape
IsReadError (InvalidObjectId read_error) read_result = (id_text : List ℕ) × (read_result ≡ Err (wrong_id id_text))
    × IsIdFault id_text read_error

abbrev pub IsReadResult : {X Y : Type 0} → (X → Y) → Result X Error → Result Y Fault → Type 0
IsReadResult view (Ok read_value) read_result = read_result ≡ Ok (view read_value)
IsReadResult view (Err read_error) read_result = IsReadError read_error read_result
