-- Which value the options read from a text, and from the bytes of a document.
use Rattle.std.specs.Prelude.{◌≡◌, ◌⊎◌, ◌≤◌, ℕ, List}
use Rattle.bson.specs.TextMeaning.{HasTextMeaningIn, IsNotJsonText}
use Rattle.bson_bytes.specs.ReadDocuments.{IsReadAsDocumentIn}
use Rattle.bson_codec.specs.Canonical.{nul_in_key, nul_in_regex, too_long}
use Rattle.bson_model.specs.Value.{Value, Pairs, document}
use Rattle.bson_tree.specs.declared.place.Place.{Place}
use Rattle.bson_run.specs.Preprocessed.{IsPreprocessedAs, IsRejectedByPreprocessing}
use Rattle.bson_run.specs.declared.task.Preprocessing.{Preprocessing}
use Rattle.vbson.specs.Convert.{IsInvalidExtendedJson, IsInvalidShape, IsBadObjectId, IsReadWith, options_of_call}
use Rattle.vbson.specs.Convert.{duplicate_keys_of, preprocessing_of}
use Rattle.vbson.specs.Documents.{IsUnencodableText, TextIsNotDocumentUnder, depth}
use Rattle.vbson.specs.declared.options.CallOptions.{CallOptions}

-- ---- texts

-- preprocessing rejects the text
abbrev pub HasRejectedKey : Preprocessing → (text : List ℕ) → Type 0
HasRejectedKey preprocessing text = (place : Place) × IsRejectedByPreprocessing preprocessing place text

-- under the options the text denotes the value
pub record MeansUnder (options : CallOptions) (text : List ℕ) (value : Value) : Type 0 where
  pub read_text : List ℕ
  pub read_as : IsPreprocessedAs (preprocessing_of options) text read_text
  pub meaning : HasTextMeaningIn (options_of_call options).doubles read_text value

abbrev pub IsNotJsonUnder : CallOptions → (text : List ℕ) → Type 0
IsNotJsonUnder options = IsReadWith options IsNotJsonText

abbrev pub HasBadObjectIdUnder : CallOptions → (text : List ℕ) → Type 0
HasBadObjectIdUnder options = IsReadWith options (IsInvalidExtendedJson (options_of_call options) IsBadObjectId)

abbrev pub IsInvalidUnder : CallOptions → (text : List ℕ) → Type 0
IsInvalidUnder options text =
    HasRejectedKey (preprocessing_of options) text
    ⊎ IsReadWith options (IsInvalidExtendedJson (options_of_call options) IsInvalidShape) text

-- ---- documents

-- under the options the bytes are the document that the value is
pub record IsDocumentUnder (options : CallOptions) (bytes : List ℕ) (value : Value) : Type 0 where
  pub pairs : Pairs
  pub read : IsReadAsDocumentIn (duplicate_keys_of options) depth bytes pairs
  pub is_document : value ≡ document pairs

abbrev pub IsNotDocumentUnder : CallOptions → (bytes : List ℕ) → Type 0
IsNotDocumentUnder options bytes = (value : Value) → IsDocumentUnder options bytes value → ⊥

-- ---- for private clauses

-- why preprocessing returns no text
pub record IsPreprocessingFailure (options : CallOptions) (status : ℕ) (text : List ℕ) : Type 0 where
  pub has_rejected_key : status ≡ 4 → HasRejectedKey (preprocessing_of options) text
  pub accepts : (read_text : List ℕ) → IsPreprocessedAs (preprocessing_of options) text read_text → status ≡ 5
  pub possible_statuses : (status ≡ 4) ⊎ (status ≡ 5)

-- the cause of each status that rejects a text under the options
pub record IsTextReadFailure (options : CallOptions) (status : ℕ) (text : List ℕ) : Type 0 where
  pub not_json : status ≡ 2 → IsNotJsonUnder options text
  pub bad_object_id : status ≡ 3 → HasBadObjectIdUnder options text
  pub not_extended_json : status ≡ 4 → IsInvalidUnder options text
  pub possible_statuses : (2 ≤ status) × (status ≤ 5)

-- the cause of each status of a text that is not encoded under the options
pub record IsTextEncodeFailure (options : CallOptions) (status : ℕ) (text : List ℕ) : Type 0 where
  pub not_json : status ≡ 2 → IsNotJsonUnder options text
  pub bad_object_id : status ≡ 3 → HasBadObjectIdUnder options text
  pub not_extended_json : status ≡ 4 → IsInvalidUnder options text
  pub no_document : status ≡ 10 → TextIsNotDocumentUnder options text
  pub key_has_zero : status ≡ 11 → IsUnencodableText options nul_in_key text
  pub regex_has_zero : status ≡ 12 → IsUnencodableText options nul_in_regex text
  pub too_long : status ≡ 13 → IsUnencodableText options too_long text
  pub possible_statuses : ((2 ≤ status) × (status ≤ 5)) ⊎ ((10 ≤ status) × (status ≤ 13))

-- the cause of each status that rejects bytes as a document under the options
pub record IsDocumentReadFailure (options : CallOptions) (status : ℕ) (bytes : List ℕ) : Type 0 where
  pub no_document : status ≡ 10 → IsNotDocumentUnder options bytes
  pub accepts : (value : Value) → IsDocumentUnder options bytes value → status ≡ 5
  pub possible_statuses : (status ≡ 5) ⊎ (status ≡ 10)
