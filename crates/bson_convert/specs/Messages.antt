-- The names of the modes, the messages of errors and their kinds.
use Rattle.std.specs.Prelude.{ℕ, List, Option, None, Some, codes}
use Rattle.bson_tree.specs.declared.place.Reason.{Reason}
use Rattle.bson_tree.specs.declared.place.Reason.TheVariants as reason
use Rattle.bson_convert.specs.declared.mode.Mode.{Mode}
use Rattle.bson_convert.specs.declared.mode.Mode.TheVariants as mode
use Rattle.bson_convert.specs.declared.encode_error.NoBytes.{NoBytes}
use Rattle.bson_convert.specs.declared.encode_error.NoBytes.TheVariants.{NoDocument, ZeroInKey, ZeroInRegex, TooLong}
use Rattle.bson_convert.specs.declared.error.Error.{Error}
use Rattle.bson_convert.specs.declared.error.Error.TheVariants as error
use Rattle.bson_convert.specs.declared.fault.Fault.{Fault}
use Rattle.bson_convert.specs.declared.fault.Fault.TheVariants as fault

abbrev pub name_of_mode : Mode → List ℕ
name_of_mode mode.Canonical = codes "canonical"
name_of_mode mode.Relaxed = codes "relaxed"
name_of_mode mode.Show = codes "show"

abbrev pub reason_message : Reason → List ℕ
reason_message (reason.BadObjectId id_error) = codes "bad object id"
reason_message (reason.WrongShape message) = codes "not Extended JSON"

abbrev pub no_bytes_message : NoBytes → List ℕ
no_bytes_message NoDocument = codes "not a document"
no_bytes_message ZeroInKey = codes "a key has a 0 byte in it"
no_bytes_message ZeroInRegex = codes "a regular expression has a 0 byte in it"
no_bytes_message TooLong = codes "a part is too long for BSON"

abbrev pub error_message : Error → List ℕ
error_message error.CannotRead = codes "cannot read"
error_message error.NotJson = codes "not JSON"
error_message (error.NotExtendedJson place) = reason_message place.reason
error_message (error.NoBytes no_bytes) = no_bytes_message no_bytes
error_message (error.NotCanonical column) = codes "not canonical Extended JSON"
error_message error.OutOfMemory = codes "out of memory"
error_message error.CannotWrite = codes "cannot write"

-- the kind of a text's first error
abbrev pub fault_of_reason : Reason → Fault
fault_of_reason (reason.BadObjectId id_error) = fault.BadObjectId
fault_of_reason (reason.WrongShape message) = fault.NotExtendedJson

-- the kind of an error; missing bytes and a text that is not canonical are not errors of a run
abbrev pub fault_kind : Error → Option Fault
fault_kind error.CannotRead = Some fault.CannotRead
fault_kind error.NotJson = Some fault.NotJson
fault_kind (error.NotExtendedJson place) = Some (fault_of_reason place.reason)
fault_kind (error.NoBytes no_bytes) = None
fault_kind (error.NotCanonical column) = None
fault_kind error.OutOfMemory = Some fault.OutOfMemory
fault_kind error.CannotWrite = Some fault.CannotWrite

abbrev pub fault_line : Fault → List ℕ
fault_line fault.CannotRead = codes "bson_cli: cannot read"
fault_line fault.NotJson = codes "bson_cli: not JSON"
fault_line fault.BadObjectId = codes "bson_cli: bad object id"
fault_line fault.NotExtendedJson = codes "bson_cli: not Extended JSON"
fault_line fault.OutOfMemory = codes "bson_cli: out of memory"
fault_line fault.CannotWrite = codes "bson_cli: cannot write"
