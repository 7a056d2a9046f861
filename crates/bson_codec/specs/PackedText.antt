-- Which bytes are written of a document that is meant, and from the tokens of a text.
use Rattle.std.specs.Prelude.{◌≡◌, ◌++◌, ◌+◌, ◌≤◌, ℕ, suc, List, length, true, Ok}
use Rattle.std.specs.Str.{is_utf8}
use Rattle.bson_types.specs.declared.spec.ElementType.TheVariants as tag
use Rattle.bson_model.specs.Value.{Value, Pairs, document}
use Rattle.bson_bytes.specs.ReadDocuments.{IsReadAsDocument}
use Rattle.bson_bytes.specs.PutSteps.{put_value, put_document, put_text, put_length_placeholder}
use Rattle.bson_bytes.specs.Writing.{type_of, name_bytes, document_bytes, pairs_read_back, FitsDocument, PairsNestUpTo, IsWellTyped}
use Rattle.bson_bytes.specs.Writing.{IsWellTypedDocument}

-- a document is meant, whose canonical bytes these are; they are read back as it
pub record IsBytesOf (means : Value → Type 0) (bytes : List ℕ) : Type 0 where
  pub pairs : Pairs
  pub meaning : means (document pairs)
  pub fits : FitsDocument pairs
  pub canonical : bytes ≡ document_bytes pairs
  pub back : (depth : ℕ) → PairsNestUpTo pairs depth → IsReadAsDocument (suc depth) bytes (pairs_read_back pairs)

-- ---- for private clauses

-- the element with this name and value was appended to the old bytes
abbrev pub ElementAppended : (name : List ℕ) → Value → (old_bytes new_bytes : List ℕ) → Type 0
ElementAppended name bson_value old_bytes new_bytes =
    IsWellTyped bson_value × (put_value bson_value (old_bytes ++ name_bytes (type_of bson_value) name) ≡ Ok new_bytes)
    × (length old_bytes ≤ length new_bytes)

-- the document of the pairs was appended
abbrev pub DocumentAppended : Pairs → (old_bytes new_bytes : List ℕ) → Type 0
DocumentAppended pairs old_bytes new_bytes = IsWellTypedDocument pairs × (put_document pairs old_bytes ≡ Ok new_bytes)
    × (length old_bytes ≤ length new_bytes)

-- four bytes for a length were reserved at this position
abbrev pub LengthReserved : (length_start : ℕ) → (old_bytes new_bytes : List ℕ) → Type 0
LengthReserved length_start old_bytes new_bytes =
    (length_start ≡ length old_bytes) × (new_bytes ≡ put_length_placeholder old_bytes)

abbrev pub ElementArrayOpened : (name : List ℕ) → (length_start : ℕ) → (old_bytes new_bytes : List ℕ) → Type 0
ElementArrayOpened name length_start old_bytes new_bytes =
    LengthReserved length_start (old_bytes ++ name_bytes tag.Array name) new_bytes

-- the code before its scope was appended, after four bytes for the length of both at this position
abbrev pub ElementCodeOpened : (name code : List ℕ) → (length_start : ℕ) → (old_bytes new_bytes : List ℕ) → Type 0
ElementCodeOpened name code length_start old_bytes new_bytes =
    (is_utf8 code ≡ true) × (length_start ≡ length (old_bytes ++ name_bytes tag.JavaScriptCodeWithScope name))
    × (put_text code (put_length_placeholder (old_bytes ++ name_bytes tag.JavaScriptCodeWithScope name)) ≡ Ok new_bytes)
    × (length old_bytes + 4 ≤ length new_bytes) × (length_start + 4 ≤ length new_bytes)
