-- Why a traversal fails, and what the error rules out about the text.
use Rattle.std.specs.Prelude.{◌≡◌, ℕ, List, Option, None, Some, Result, true}
use Rattle.json.specs.Strict.{AreDistinct}
use Rattle.json.specs.Token.{Token}
use Rattle.json.specs.declared.error.Error.{Error}
use Rattle.json.specs.declared.error.Error.TheVariants as json_error
use Rattle.bson_scalar.specs.Faults.{Fault as ScalarFault, IsReadError}
use Rattle.bson_scalar.specs.Normal.{writable_scalar_in}
use Rattle.bson_scalar.specs.Scalar.{Scalar}
use Rattle.bson_scalar.specs.declared.error.Error.{Error as ReadError}
use Rattle.bson_scalar.specs.declared.error.Error.TheVariants as read_error
use Rattle.bson_scalar.specs.declared.form.Doubles.{Doubles}
use Rattle.bson_scalar.specs.declared.write_error.WriteError.{WriteError}
use Rattle.bson_scalar.specs.declared.write_error.WriteError.TheVariants as write_error
use Rattle.bson_tokens.specs.PutMembers.{KeysAscendFrom}
use Rattle.bson_text.specs.declared.traversal_error.TraversalError.{TraversalError}
use Rattle.bson_text.specs.declared.traversal_error.TraversalError.TheVariants.{OutOfMemory, DuplicateKey, GaveUp, Syntax, Fault}

abbrev pub error_of_json : Error → TraversalError
error_of_json json_error.Invalid = Syntax
error_of_json _ = OutOfMemory

abbrev pub error_of_reading : ReadError → TraversalError
error_of_reading read_error.OutOfMemory = OutOfMemory
error_of_reading _ = Syntax

abbrev pub error_of_writing : WriteError → TraversalError
error_of_writing write_error.OutOfMemory = OutOfMemory
error_of_writing write_error.FiniteDouble = GaveUp

-- A writer fails if an allocation fails, if keys are not unique, or if it gives up a text for which this holds.
abbrev pub IsWriterErrorIf : (KeysAreDistinct WriterGivesUp : Type 0) → TraversalError → Type 0
IsWriterErrorIf KeysAreDistinct WriterGivesUp OutOfMemory = Unit {0}
IsWriterErrorIf KeysAreDistinct WriterGivesUp DuplicateKey = KeysAreDistinct → ⊥
IsWriterErrorIf KeysAreDistinct WriterGivesUp GaveUp = WriterGivesUp
IsWriterErrorIf KeysAreDistinct WriterGivesUp Syntax = ⊥
IsWriterErrorIf KeysAreDistinct WriterGivesUp (Fault place) = ⊥

-- A writer may give up a text that is read in a mode of doubles in which it gives up some.
abbrev pub IsWriterError : (WriterMayGiveUp : Doubles → Type 0) → TraversalError → Type 0
IsWriterError WriterMayGiveUp reported_error = IsWriterErrorIf (Unit {0}) ((doubles : Doubles)
    → WriterMayGiveUp doubles) reported_error

-- For a scalar it may also do this if the scalar is not one that has a text in the mode.
abbrev pub IsScalarWriterError : (WriterMayGiveUp : Doubles → Type 0) → Scalar → TraversalError → Type 0
IsScalarWriterError WriterMayGiveUp scalar_value reported_error = IsWriterErrorIf (Unit {0}) ((doubles : Doubles)
    → writable_scalar_in doubles scalar_value ≡ true → WriterMayGiveUp doubles) reported_error

-- When a document of these keys ends, it may report that two of them are equal. A sorting writer may give up keys
-- that do not ascend.
abbrev pub IsDocumentEndError : (WriterMayGiveUp : Doubles → Type 0) → (WriterSortsKeys : Type 0)
    → (keys : List (List ℕ)) → TraversalError → Type 0
IsDocumentEndError WriterMayGiveUp WriterSortsKeys keys reported_error =
    IsWriterErrorIf (AreDistinct keys)
    ((WriterSortsKeys → KeysAscendFrom None keys) → (doubles : Doubles) → WriterMayGiveUp doubles) reported_error

-- A fault becomes a text that was given up.
abbrev pub IsErrorAfterGivingUp : (inner_error reported_error : TraversalError) → Type 0
IsErrorAfterGivingUp OutOfMemory reported_error = reported_error ≡ OutOfMemory
IsErrorAfterGivingUp DuplicateKey reported_error = reported_error ≡ DuplicateKey
IsErrorAfterGivingUp GaveUp reported_error = reported_error ≡ GaveUp
IsErrorAfterGivingUp Syntax reported_error = reported_error ≡ GaveUp
IsErrorAfterGivingUp (Fault place) reported_error = reported_error ≡ GaveUp

-- The error says that the text is invalid.
abbrev pub IsInvalidInput : TraversalError → Type 0
IsInvalidInput OutOfMemory = ⊥
IsInvalidInput DuplicateKey = ⊥
IsInvalidInput GaveUp = ⊥
IsInvalidInput Syntax = Unit {0}
IsInvalidInput (Fault place) = Unit {0}

-- The error is of the same kind as the inner error, or an allocation failed.
abbrev pub IsSameKindOrOutOfMemory : (inner_error reported_error : TraversalError) → Type 0
IsSameKindOrOutOfMemory inner_error OutOfMemory = Unit {0}
IsSameKindOrOutOfMemory inner_error DuplicateKey = inner_error ≡ DuplicateKey
IsSameKindOrOutOfMemory inner_error GaveUp = inner_error ≡ GaveUp
IsSameKindOrOutOfMemory inner_error Syntax = IsInvalidInput inner_error
IsSameKindOrOutOfMemory inner_error (Fault place) = IsInvalidInput inner_error

-- The error of reading a scalar.
abbrev pub IsReadingError : (read_result : Result Scalar ScalarFault) → (reported_error : TraversalError) → Type 0
IsReadingError read_result reported_error = (cause : ReadError) × IsReadError cause read_result
    × IsSameKindOrOutOfMemory (error_of_reading cause) reported_error

-- what an error rules out. `GaveUp`: that the text can be streamed. `DuplicateKey`: that keys are unique. A fault: that
-- keys are unique and the text is valid. `OutOfMemory`: nothing
abbrev pub ErrorRulesOut : TraversalError → (ValueCanBeStreamed KeysAreUnique MeansValue : Type 0) → Type 0
ErrorRulesOut OutOfMemory ValueCanBeStreamed KeysAreUnique MeansValue = ⊥
ErrorRulesOut DuplicateKey ValueCanBeStreamed KeysAreUnique MeansValue = KeysAreUnique
ErrorRulesOut GaveUp ValueCanBeStreamed KeysAreUnique MeansValue = ValueCanBeStreamed
ErrorRulesOut Syntax ValueCanBeStreamed KeysAreUnique MeansValue = KeysAreUnique × MeansValue
ErrorRulesOut (Fault place) ValueCanBeStreamed KeysAreUnique MeansValue = KeysAreUnique × MeansValue

-- nothing of the kind was parsed
abbrev pub IsNotParsed : {X : Type 0} → (parsed : Option (X × List Token)) → (ClaimHolds : X → List Token → Type 0)
    → Type 0
IsNotParsed {X} parsed ClaimHolds =
    (parsed_value : X) (remaining_tokens : List Token) → parsed ≡ Some (parsed_value, remaining_tokens)
    → ClaimHolds parsed_value remaining_tokens → ⊥
