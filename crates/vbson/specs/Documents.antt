-- Documents by their bytes (BSON 1.1, bsonspec.org), and by their texts.
use Rattle.std.specs.Prelude.{◌≡◌, ◌⊎◌, ℕ, List, IsUtf8, Option, Some, None, false, true}
use Rattle.bson.specs.Doubles.{Doubles}
use Rattle.bson.specs.Doubles.TheVariants.{Special, Finite}
use Rattle.bson.specs.Form.{Form}
use Rattle.bson.specs.Form.TheVariants as form
use Rattle.bson_scalar.specs.Forms.{form_in}
use Rattle.bson.specs.Texts.{IsTextInKeyOrder}
use Rattle.bson_model.specs.declared.options.Options.{Options}
use Rattle.bson_codec.specs.Canonical.{NoBytesCause}
use Rattle.bson_bytes.specs.ReadDocuments.{IsReadAsDocumentIn}
use Rattle.bson_model.specs.Displayed.{display_text}
use Rattle.bson_model.specs.Normal.{writable_in}
use Rattle.bson_model.specs.Value.{Value, Pairs, document}
use Rattle.bson.specs.TextMeaning.{HasTextMeaningInKeyOrder, TextMeansInKeyOrder}
use Rattle.bson_run.specs.Encode.{Encodes, IsUnencodableFor, IsNoDocument}
use Rattle.bson_convert.specs.declared.mode.Mode.{Mode}
use Rattle.bson_convert.specs.declared.mode.Mode.TheVariants.{Canonical, Relaxed, Show}
use Rattle.vbson.specs.Convert.{IsReadWith, duplicate_keys_of, mode_of_number, options_of_call}
use Rattle.vbson.specs.Text.{IsOwnedText}
use Rattle.bson_model.specs.declared.options.DuplicateKeys.{DuplicateKeys}
use Rattle.bson_model.specs.declared.options.DuplicateKeys.TheVariants.{LastWins, Reject}
use Rattle.bson_model.specs.declared.options.KeyOrder.{KeyOrder}
use Rattle.bson_model.specs.declared.options.KeyOrder.TheVariants.{Ascending, AsGiven}
use Rattle.vbson.specs.declared.options.CallOptions.{CallOptions}
use Rattle.vbson.specs.declared.text.Text.{Text}

-- how deep documents, arrays and scopes may nest
abbrev pub depth : ℕ
depth = 100

-- the bytes are one document; if duplicate keys are rejected, it has none
abbrev pub IsOneDocument : DuplicateKeys → (bytes : List ℕ) → Type 0
IsOneDocument keys bytes = (pairs : Pairs) × IsReadAsDocumentIn keys depth bytes pairs

-- ---- from bytes to a text

-- the text of the document in the mode; what is shown has the document's own order in any case
abbrev pub IsTextOfDocument : Options → Mode → Pairs → (text : List ℕ) → Type 0
IsTextOfDocument options Canonical pairs text =
    IsTextInKeyOrder options.key_order options.doubles (form_in options.layout form.Canonical) (document pairs) text
IsTextOfDocument options Relaxed pairs text =
    IsTextInKeyOrder options.key_order options.doubles (form_in options.layout form.Relaxed) (document pairs) text
IsTextOfDocument options Show pairs text = text ≡ display_text (document pairs)

-- the document has no text in the mode
abbrev pub PairsHaveNoTextIn : Options → Mode → Pairs → Type 0
PairsHaveNoTextIn options Canonical pairs = writable_in options.doubles (document pairs) ≡ false
PairsHaveNoTextIn options Relaxed pairs = writable_in options.doubles (document pairs) ≡ false
PairsHaveNoTextIn options Show pairs = ⊥

-- the bytes are a document, whose text in the mode this is
pub record Decodes (keys : DuplicateKeys) (options : Options) (mode : Mode) (bytes text : List ℕ) : Type 0 where
  pub pairs : Pairs
  pub read : IsReadAsDocumentIn keys depth bytes pairs
  pub written : IsTextOfDocument options mode pairs text

-- the bytes are a document, and the output is its UTF-8 text in the mode that was selected
pub record IsDecoded (options : CallOptions) (mode_number : ℕ) (bytes : List ℕ) (owned_text : Text) : Type 0 where
  pub mode : Mode
  pub mode_selected : mode_of_number mode_number ≡ Some mode
  pub text : List ℕ
  pub decodes : Decodes (duplicate_keys_of options) (options_of_call options) mode bytes text
  pub utf8 : IsUtf8 text
  pub is_text : IsOwnedText text owned_text

-- the bytes are a document that has no text in the mode that was selected
pub record DocumentHasNoText (options : CallOptions) (mode_number : ℕ) (bytes : List ℕ) : Type 0 where
  pub mode : Mode
  pub mode_selected : mode_of_number mode_number ≡ Some mode
  pub pairs : Pairs
  pub read : IsReadAsDocumentIn (duplicate_keys_of options) depth bytes pairs
  pub unwritable : PairsHaveNoTextIn (options_of_call options) mode pairs

-- ---- from a text to bytes

-- the text that is read denotes the value, with its keys in the order of the options
abbrev pub ReadTextMeans : CallOptions → (read_text : List ℕ) → Value → Type 0
ReadTextMeans options = HasTextMeaningInKeyOrder (options_of_call options).key_order (options_of_call options).doubles

-- under the options the text is that of a tree that denotes the document with these pairs
abbrev pub IsDocumentTextUnder : CallOptions → Pairs → (text : List ℕ) → Type 0
IsDocumentTextUnder options pairs text = IsReadWith options
    (λ read_text. TextMeansInKeyOrder (options_of_call options).key_order (options_of_call options).doubles read_text
    (document pairs)) text

-- the bytes are those of the document that the text denotes under the options
abbrev pub EncodesUnder : CallOptions → (text bytes : List ℕ) → Type 0
EncodesUnder options text bytes = IsReadWith options
    (λ read_text. Encodes (options_of_call options).key_order (options_of_call options) read_text bytes) text

-- the output is these bytes
abbrev pub IsEncoded : CallOptions → (text : List ℕ) → Text → Type 0
IsEncoded options text owned_text =
    (bytes : List ℕ) × EncodesUnder options text bytes × IsOwnedText bytes owned_text

-- under the options the text denotes a value that is not a document
abbrev pub TextIsNotDocumentUnder : CallOptions → (text : List ℕ) → Type 0
TextIsNotDocumentUnder options text =
    IsReadWith options (λ read_text. IsNoDocument (ReadTextMeans options read_text)) text

-- under the options the text denotes a document that has no BSON bytes, for this cause
abbrev pub IsUnencodableText : CallOptions → NoBytesCause → (text : List ℕ) → Type 0
IsUnencodableText options cause text =
    IsReadWith options (λ read_text. IsUnencodableFor (ReadTextMeans options read_text) cause) text

-- ---- for private clauses

abbrev pub form_of_mode : Mode → Option Form
form_of_mode Canonical = Some form.Canonical
form_of_mode Relaxed = Some form.Relaxed
form_of_mode Show = None

abbrev pub form_with_doubles : Doubles → Mode → Option Form
form_with_doubles Special mode = None
form_with_doubles Finite mode = form_of_mode mode

-- the form in which a text is written while the bytes are read: with finite doubles, and with keys as given
abbrev pub streaming_form_in_order : KeyOrder → Doubles → Mode → Option Form
streaming_form_in_order Ascending doubles mode = None
streaming_form_in_order AsGiven doubles mode = form_with_doubles doubles mode

-- and if duplicate keys are not rejected
abbrev pub streaming_form : DuplicateKeys → Options → Mode → Option Form
streaming_form Reject options mode = None
streaming_form LastWins options mode = streaming_form_in_order options.key_order options.doubles mode

-- the cause of each status of a failed decoding
pub record IsDecodeFailure (keys : DuplicateKeys) (options : Options) (mode : Mode) (status : ℕ)
    (bytes : List ℕ) : Type 0 where
  pub no_document : status ≡ 10 → IsOneDocument keys bytes → ⊥
  pub no_text : status ≡ 7
      → (pairs : Pairs) × IsReadAsDocumentIn keys depth bytes pairs × PairsHaveNoTextIn options mode pairs
  pub accepts : (pairs : Pairs) → IsReadAsDocumentIn keys depth bytes pairs
      → writable_in options.doubles (document pairs) ≡ true → status ≡ 5
  pub possible_statuses : (status ≡ 5) ⊎ ((status ≡ 7) ⊎ (status ≡ 10))
