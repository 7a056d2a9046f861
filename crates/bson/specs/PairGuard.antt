-- What the contracts of a place cite.
use Rattle.std.specs.Prelude.{◌≡◌, ℕ, Option}
use Rattle.std.specs.Borrow.{Fml, MutBor, RestsIfNone, follows}
use Rattle.bson_store.specs.Pairs.{with_value}
use Rattle.bson.specs.LoanTypes.{bson_rust_type, document_rust_type}
use Rattle.bson.specs.View.{contents, document_of_pairs}
use Rattle.bson.specs.declared.bson.Bson.{Bson}
use Rattle.bson.specs.declared.document.Document.{Document}
use Rattle.bson.specs.declared.document.by_index.PlaceMut.{PlaceMut}

-- the reference to the document
abbrev pub place_document : PlaceMut → MutBor Document
place_document guard = guard.document

-- the place of the pair, from 0
abbrev pub place_index : PlaceMut → ℕ
place_index guard = guard.pair_index

-- where no place came out, the document stays as it was
abbrev pub IsUnchangedWithoutPlace : (document_reference : MutBor Document) → (old_document : Document)
    → (returned_guard : Option PlaceMut) → Fml
IsUnchangedWithoutPlace document_reference old_document returned_guard =
    RestsIfNone document_rust_type document_reference (λ guard. guard.document.ghost_name) returned_guard
    (λ current. current ≡ old_document)

-- the document with the new value at the place
abbrev pub with_place_value : (guard : PlaceMut) → (new_value : Bson) → Document
with_place_value guard new_value =
    document_of_pairs (with_value (contents guard.document.now) guard.pair_index new_value)

-- once the loan of the reference ends, the document has at the place the last value written through it
abbrev pub writes_back_at_place : (guard : PlaceMut) → (value_reference : MutBor Bson) → Fml
writes_back_at_place guard value_reference =
    follows document_rust_type bson_rust_type guard.document.ghost_name value_reference.ghost_name
    (with_place_value guard)
