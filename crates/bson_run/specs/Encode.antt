-- Encoding bytes: the canonical bytes (BSON 1.1) of the document that they denote as a text, or why there
-- are none.
use Rattle.std.specs.Prelude.{◌≡◌, ℕ, List}
use Rattle.bson.specs.TextMeaning.{HasTextMeaningInKeyOrder}
use Rattle.bson_model.specs.declared.options.KeyOrder.{KeyOrder}
use Rattle.bson_model.specs.declared.options.Options.{Options}
use Rattle.bson_codec.specs.Canonical.{NoBytesCause, nul_in_key, nul_in_regex, too_long}
use Rattle.bson_codec.specs.Canonical.{DocumentDoesNotFit}
pub use Rattle.bson_codec.specs.PackedText.{IsBytesOf}
use Rattle.bson_model.specs.Value.{Value, Pairs, document}
use Rattle.bson_convert.specs.Convert.{IsRejectedIn}
use Rattle.bson_convert.specs.declared.encode_error.NoBytes.{NoBytes}
use Rattle.bson_convert.specs.declared.encode_error.NoBytes.TheVariants.{NoDocument, ZeroInKey, ZeroInRegex, TooLong}
use Rattle.bson_convert.specs.declared.error.Error.{Error}
use Rattle.bson_convert.specs.declared.error.Error.TheVariants as error

-- ---- what is meant has bytes, or has none

-- a value that is no document is meant
pub record IsNoDocument (means : Value → Type 0) : Type 0 where
  pub value : Value
  pub meaning : means value
  pub other : (pairs : Pairs) → value ≡ document pairs → ⊥

-- a document is meant that has no bytes, for this cause
pub record IsUnencodableFor (means : Value → Type 0) (cause : NoBytesCause) : Type 0 where
  pub pairs : Pairs
  pub meaning : means (document pairs)
  pub fails : DocumentDoesNotFit cause pairs

-- why what is meant has no bytes
abbrev pub HasNoBsonBytes : (means : Value → Type 0) → NoBytes → Type 0
HasNoBsonBytes means NoDocument = IsNoDocument means
HasNoBsonBytes means ZeroInKey = IsUnencodableFor means nul_in_key
HasNoBsonBytes means ZeroInRegex = IsUnencodableFor means nul_in_regex
HasNoBsonBytes means TooLong = IsUnencodableFor means too_long

-- ---- what a text gives, its keys in the order

-- the text means a document, whose canonical bytes these are; they are read back as it
abbrev pub Encodes : KeyOrder → Options → (text bytes : List ℕ) → Type 0
Encodes key_order options text bytes = IsBytesOf (HasTextMeaningInKeyOrder key_order options.doubles text) bytes

-- why the text gives no bytes
abbrev pub TextHasNoBsonBytes : KeyOrder → Options → NoBytes → (text : List ℕ) → Type 0
TextHasNoBsonBytes key_order options no_bytes_cause text =
    HasNoBsonBytes (HasTextMeaningInKeyOrder key_order options.doubles text) no_bytes_cause

-- what each fault says of the bytes
abbrev pub IsEncodeErrorBy : KeyOrder → Options → Error → (text : List ℕ) → Type 0
IsEncodeErrorBy key_order options (error.NoBytes no_bytes_cause) text =
    TextHasNoBsonBytes key_order options no_bytes_cause text
IsEncodeErrorBy key_order options fault text = IsRejectedIn options fault text

-- ---- for private clauses

-- why what is meant gave no bytes, or memory ran out
abbrev pub IsEncodeErrorFor : (means : Value → Type 0) → Error → Type 0
IsEncodeErrorFor means (error.NoBytes no_bytes_cause) = HasNoBsonBytes means no_bytes_cause
IsEncodeErrorFor means error.OutOfMemory = Unit {0}
IsEncodeErrorFor means other_error = ⊥

-- the document fails for the cause, or memory ran out
abbrev pub IsWriteErrorOf : Error → Pairs → Type 0
IsWriteErrorOf (error.NoBytes ZeroInKey) pairs = DocumentDoesNotFit nul_in_key pairs
IsWriteErrorOf (error.NoBytes ZeroInRegex) pairs = DocumentDoesNotFit nul_in_regex pairs
IsWriteErrorOf (error.NoBytes TooLong) pairs = DocumentDoesNotFit too_long pairs
IsWriteErrorOf error.OutOfMemory pairs = Unit {0}
IsWriteErrorOf other_error pairs = ⊥
