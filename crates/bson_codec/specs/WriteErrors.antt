-- Why a document was not written.
use Rattle.bson_model.specs.Value.{Pairs}
use Rattle.bson_bytes.specs.Writing.{nul_in_key, nul_in_regex, too_long, DocumentDoesNotFit}
use Rattle.bson_bytes.specs.declared.error.Error.{Error}
use Rattle.bson_bytes.specs.declared.error.Error.TheVariants as errors

-- the document fails for the cause that the error says, or memory ran out
abbrev pub IsWriteErrorFor : Error → Pairs → Type 0
IsWriteErrorFor errors.OutOfMemory pairs = Unit {0}
IsWriteErrorFor errors.Key pairs = DocumentDoesNotFit nul_in_key pairs
IsWriteErrorFor errors.Regex pairs = DocumentDoesNotFit nul_in_regex pairs
IsWriteErrorFor errors.Size pairs = DocumentDoesNotFit too_long pairs
