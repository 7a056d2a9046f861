-- Texts that are checked or rewritten before they are read: whether they have a duplicate key, and which text of Extended
-- JSON v2 is read in place of one of v1.
use Rattle.std.specs.Prelude.{◌≡◌, ◌⊎◌, ℕ, List, Option, None, Some, IsUtf8, string_bytes, String, Bool, true, false}
use Rattle.std.specs.declared.alloc.Global.{Global}
use Rattle.json.specs.Json.{Json}
use Rattle.json.specs.Strict.{HasUniqueKeys}
use Rattle.serde_json.specs.Data.{Data}
use Rattle.serde_json.specs.Read.{read}
use Rattle.bson_model.specs.declared.options.DuplicateKeys.{DuplicateKeys}
use Rattle.bson_model.specs.declared.options.DuplicateKeys.TheVariants.{LastWins, Reject}
use Rattle.bson_tokens.specs.DuplicateKeys.{json_of, HasDuplicateKey}
use Rattle.bson_v1.specs.BareWords.{with_words}
use Rattle.bson_v1.specs.Text.{IsUpgradedText}
use Rattle.bson_v1.specs.declared.bare_words.WordForm.TheVariants.{Wrapper}
use Rattle.bson_tree.specs.Place.{path_of}
use Rattle.bson_tree.specs.declared.place.Place.{Place}
use Rattle.bson_convert.specs.declared.error.Error.{Error}
use Rattle.bson_convert.specs.declared.error.Error.TheVariants.{NotExtendedJson, OutOfMemory}
use Rattle.bson_run.specs.declared.task.Preprocessing.{Preprocessing}

-- the last value of a duplicate key wins, and nothing is rewritten
abbrev pub default_preprocessing : Preprocessing
default_preprocessing = record { duplicate_keys = LastWins; v1 = false }

-- if the bytes are a JSON text, no object of it has a duplicate key, at any depth
abbrev pub LacksDuplicateKey : (bytes : List ℕ) → Type 0
LacksDuplicateKey bytes = (json : Json) → IsUtf8 bytes → json_of bytes ≡ Some json → HasUniqueKeys json

-- the bytes are a JSON text, whose first duplicate key is at the place
abbrev pub HasDuplicateKeyAt : Place → (bytes : List ℕ) → Type 0
HasDuplicateKeyAt place bytes = IsUtf8 bytes × HasDuplicateKey bytes (path_of place)

-- the bytes are not a JSON text whose numbers are in range
abbrev pub IsInvalidJson : (bytes : List ℕ) → Type 0
IsInvalidJson bytes = (tree : Data) → IsUtf8 bytes → read bytes ≡ Some tree → ⊥

-- with v1, bare words such as `NaN` are wrappers of doubles
abbrev pub worded_text : (v1 : Bool) → (bytes : List ℕ) → List ℕ
worded_text true bytes = with_words Wrapper bytes
worded_text false bytes = bytes

-- a JSON text is rewritten as the text of the tree that its tree denotes; if it is none, the bytes are kept
abbrev pub UpgradesTo : (text bytes upgraded : List ℕ) → Type 0
UpgradesTo text bytes upgraded =
    (IsUtf8 text × IsUpgradedText text upgraded) ⊎ (IsInvalidJson text × (upgraded ≡ bytes))

-- if duplicate keys are rejected, the bytes have none
abbrev pub HasAllowedKeys : DuplicateKeys → (bytes : List ℕ) → Type 0
HasAllowedKeys LastWins bytes = Unit {0}
HasAllowedKeys Reject bytes = LacksDuplicateKey bytes

-- if v1 is rewritten, the bytes are; if it is not, they are kept
abbrev pub IsRewrittenAs : (v1 : Bool) → (bytes preprocessed : List ℕ) → Type 0
IsRewrittenAs true bytes preprocessed = UpgradesTo (worded_text true bytes) bytes preprocessed
IsRewrittenAs false bytes preprocessed = preprocessed ≡ bytes

-- the bytes are accepted, and these are read in their place
abbrev pub IsPreprocessedAs : Preprocessing → (bytes preprocessed : List ℕ) → Type 0
IsPreprocessedAs preprocessing bytes preprocessed =
    HasAllowedKeys preprocessing.duplicate_keys (worded_text preprocessing.v1 bytes)
    × IsRewrittenAs preprocessing.v1 bytes preprocessed

-- duplicate keys are rejected, and the first one of the bytes is at the place
abbrev pub HasRejectedKeyAt : DuplicateKeys → Place → (bytes : List ℕ) → Type 0
HasRejectedKeyAt LastWins place bytes = ⊥
HasRejectedKeyAt Reject place bytes = HasDuplicateKeyAt place bytes

-- the bytes are rejected before they are read
abbrev pub IsRejectedByPreprocessing : Preprocessing → Place → (bytes : List ℕ) → Type 0
IsRejectedByPreprocessing preprocessing place bytes =
    HasRejectedKeyAt preprocessing.duplicate_keys place (worded_text preprocessing.v1 bytes)

-- what each error says about the bytes
abbrev pub IsDuplicateKeyError : DuplicateKeys → Error → (bytes : List ℕ) → Type 0
IsDuplicateKeyError duplicate_keys (NotExtendedJson place) bytes = HasRejectedKeyAt duplicate_keys place bytes
IsDuplicateKeyError duplicate_keys OutOfMemory bytes = Unit {0}
IsDuplicateKeyError duplicate_keys other_error bytes = ⊥

abbrev pub IsPreprocessingError : Preprocessing → Error → (bytes : List ℕ) → Type 0
IsPreprocessingError preprocessing fault bytes =
    IsDuplicateKeyError preprocessing.duplicate_keys fault (worded_text preprocessing.v1 bytes)

-- the text, or the bytes if there is none
abbrev pub preprocessed_of : (bytes : List ℕ) → Option (String Global) → List ℕ
preprocessed_of bytes None = bytes
preprocessed_of bytes (Some text) = string_bytes text
