-- Why bytes have no text, and a text has no bytes.
use Rattle.std.specs.Prelude.{◌≡◌, ℕ, List}
use Rattle.bson.specs.TextMeaning.{HasTextMeaning, IsTextFault}
use Rattle.bson.specs.Value.{Pairs, Value, document}
use Rattle.bson.specs.declared.extjson.text_error.TextError.TheVariants as text_errors
use Rattle.bson_codec.specs.WriteErrors.{IsWriteErrorFor}
use Rattle.bson_codec.specs.declared.de.Error.TheVariants as errors
use Rattle.bson_codec.specs.Unwritten.TheVariants as unwritten_reasons
use Rattle.bson_pairs.specs.declared.bytes.NoBytes.{NoBytes}
use Rattle.bson_pairs.specs.declared.bytes.NoBytes.TheVariants as no_bytes_reasons
use Rattle.bson_pairs.specs.declared.bytes.NoTextReason.{NoTextReason}
use Rattle.bson_pairs.specs.declared.bytes.NoTextReason.TheVariants.{NoDocument, FiniteDouble, OutOfMemory}

-- an allocation failed while bytes were converted to text
abbrev pub IsTextAllocationFailure : NoTextReason → Type 0
IsTextAllocationFailure (NoDocument inner_error) = inner_error ≡ errors.OutOfMemory
IsTextAllocationFailure FiniteDouble = ⊥
IsTextAllocationFailure OutOfMemory = Unit {0}

-- the text denotes a value that is not a document
abbrev pub TextIsNotDocument : (text : List ℕ) → Type 0
TextIsNotDocument text = (denoted_value : Value) × HasTextMeaning text denoted_value
    × ((pairs : Pairs) → denoted_value ≡ document pairs → ⊥)

-- why the text has no bytes: it is invalid, its value is not a document, the document does not fit, or memory ran out
abbrev pub IsBytesFailure : (text : List ℕ) → NoBytes → Type 0
IsBytesFailure text (no_bytes_reasons.InvalidText inner_error) = IsTextFault text inner_error
IsBytesFailure text no_bytes_reasons.NoDocument = TextIsNotDocument text
IsBytesFailure text (no_bytes_reasons.NoBytes inner_error) = (pairs : Pairs) × HasTextMeaning text (document pairs)
    × IsWriteErrorFor inner_error pairs

-- an allocation failed while a text was converted to bytes
abbrev pub IsBytesAllocationFailure : NoBytes → Type 0
IsBytesAllocationFailure (no_bytes_reasons.InvalidText inner_error) = inner_error ≡ text_errors.OutOfMemory
IsBytesAllocationFailure no_bytes_reasons.NoDocument = ⊥
IsBytesAllocationFailure (no_bytes_reasons.NoBytes inner_error) = inner_error ≡ unwritten_reasons.OutOfMemory
