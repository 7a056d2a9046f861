-- Rows of tables that no law rests on: the names of modes, and the messages of errors. A definition that is changed together
-- with its code is refused here.
use Rattle.std.proofs.Common.{◌≡◌, refl}
use Rattle.std.specs.Prelude.{codes}
use Rattle.bson_tree.specs.declared.place.Reason.TheVariants as reason
use Rattle.bson_convert.specs.Messages.{name_of_mode, reason_message, error_message, fault_of_reason, fault_line}
use Rattle.bson_convert.specs.declared.mode.Mode.TheVariants as mode
use Rattle.bson_convert.specs.declared.encode_error.NoBytes.TheVariants as without
use Rattle.bson_convert.specs.declared.error.Error.TheVariants as error
use Rattle.bson_convert.specs.declared.fault.Fault.TheVariants as fault

-- ---- names of modes

modes_named : (name_of_mode mode.Canonical ≡ codes "canonical")
    × (name_of_mode mode.Relaxed ≡ codes "relaxed")
    × (name_of_mode mode.Show ≡ codes "show")
modes_named = (refl, refl, refl)

-- ---- messages of errors

errors_told : (error_message error.CannotRead ≡ codes "cannot read")
    × (error_message error.NotJson ≡ codes "not JSON")
    × (error_message error.OutOfMemory ≡ codes "out of memory")
    × (error_message error.CannotWrite ≡ codes "cannot write")
    × ((e : _) → reason_message (reason.BadObjectId e) ≡ codes "bad object id")
    × ((message : _) → reason_message (reason.WrongShape message) ≡ codes "not Extended JSON")
errors_told = (refl, refl, refl, refl, λ e. refl, λ message. refl)

-- ---- kinds of errors, and their lines

kinds_told : ((e : _) → fault_of_reason (reason.BadObjectId e) ≡ fault.BadObjectId)
    × ((message : _) → fault_of_reason (reason.WrongShape message) ≡ fault.NotExtendedJson)
kinds_told = (λ e. refl, λ message. refl)

lines_told : (fault_line fault.CannotRead ≡ codes "bson_cli: cannot read")
    × (fault_line fault.NotJson ≡ codes "bson_cli: not JSON")
    × (fault_line fault.BadObjectId ≡ codes "bson_cli: bad object id")
    × (fault_line fault.NotExtendedJson ≡ codes "bson_cli: not Extended JSON")
    × (fault_line fault.OutOfMemory ≡ codes "bson_cli: out of memory")
    × (fault_line fault.CannotWrite ≡ codes "bson_cli: cannot write")
lines_told = (refl, refl, refl, refl, refl, refl)

-- ---- words of texts that give no bytes

no_bytes_told : (error_message (error.NoBytes without.NoDocument) ≡ codes "not a document")
    × (error_message (error.NoBytes without.ZeroInKey) ≡ codes "a key has a 0 byte in it")
    × (error_message (error.NoBytes without.ZeroInRegex) ≡ codes "a regular expression has a 0 byte in it")
    × (error_message (error.NoBytes without.TooLong) ≡ codes "a part is too long for BSON")
no_bytes_told = (refl, refl, refl, refl)
