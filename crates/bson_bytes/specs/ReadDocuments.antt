-- Which document bytes are read as.
use Rattle.std.specs.Prelude.{◌≡◌, ℕ, List, ◌++◌}
use Rattle.bson_model.specs.Value.{Pairs}
use Rattle.bson_bytes.specs.Grammar.{IsDocument, AreAllowedKeys, deduplicated}
use Rattle.bson_bytes.specs.Writing.{FitsDocument, document_bytes}
use Rattle.bson_model.specs.declared.options.DuplicateKeys.{DuplicateKeys}
use Rattle.bson_model.specs.declared.options.DuplicateKeys.TheVariants.{LastWins}

-- the bytes are those of a document with these pairs, each key once; it has no duplicate key if those are rejected
pub record IsReadAsDocumentIn (keys : DuplicateKeys) (depth : ℕ) (bytes : List ℕ)
    (document_pairs : Pairs) : Type 0 where
  pub elements : Pairs
  pub grammar : IsDocument keys depth bytes elements
  pub keys_allowed : AreAllowedKeys keys elements
  pub pairs : document_pairs ≡ deduplicated elements

-- the same, if duplicate keys are allowed
abbrev pub IsReadAsDocument : (depth : ℕ) → (bytes : List ℕ) → Pairs → Type 0
IsReadAsDocument depth bytes document_pairs = IsReadAsDocumentIn LastWins depth bytes document_pairs

-- the bytes begin with such a document, and the rest follows
pub record IsFirstDocumentIn (keys : DuplicateKeys) (depth : ℕ) (bytes : List ℕ) (document_pairs : Pairs)
    (rest : List ℕ) : Type 0 where
  pub front : List ℕ
  pub read : IsReadAsDocumentIn keys depth front document_pairs
  pub parts : bytes ≡ front ++ rest

abbrev pub IsFirstDocument : (depth : ℕ) → (bytes : List ℕ) → Pairs → (rest : List ℕ) → Type 0
IsFirstDocument depth bytes document_pairs rest = IsFirstDocumentIn LastWins depth bytes document_pairs rest

-- and they are the bytes that this document is written as
pub record IsCanonical (depth : ℕ) (bytes : List ℕ) (document_pairs : Pairs) : Type 0 where
  pub read : IsReadAsDocument depth bytes document_pairs
  pub fits : FitsDocument document_pairs
  pub written : bytes ≡ document_bytes document_pairs
