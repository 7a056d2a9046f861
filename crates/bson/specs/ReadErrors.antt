-- The error that says why a tree was not read, for the reason at the place of its fault.
use Rattle.std.specs.Prelude.{◌≡◌}
use Rattle.bson_scalar.specs.declared.error.Error.{Error}
use Rattle.bson_scalar.specs.declared.error.Error.TheVariants.{InvalidObjectId, DeserializationError}
use Rattle.bson_tree.specs.declared.place.Reason.{Reason}
use Rattle.bson_tree.specs.declared.place.Reason.TheVariants.{BadObjectId, WrongShape}

-- the same fault of an object id's text, or the same message
abbrev pub IsErrorForReason : (reason : Reason) → (error : Error) → Type 0
IsErrorForReason (BadObjectId id) (InvalidObjectId error) = error ≡ id
IsErrorForReason (WrongShape reason_message) (DeserializationError error_message) = error_message ≡ reason_message
IsErrorForReason reason error = ⊥
