-- What the contracts of an entry cite. The words serve its halves too, as `entry_value (Occupied entry)`.
pub use Rattle.bson.specs.declared.document.entry.Entry.TheVariants.{Occupied, Vacant}
use Rattle.std.specs.Prelude.{◌≡◌, ℕ, List, Option, None, is_some, IsTrue, Result, string_bytes}
use Rattle.std.specs.Borrow.{Fml, MutBor, follows, follows_if, name_if_ok}
use Rattle.bson_store.specs.Pairs.{get, insert_pair}
use Rattle.bson.specs.declared.bson.Bson.{Bson}
use Rattle.bson.specs.declared.document.Document.{Document}
use Rattle.bson.specs.declared.document.entry.Entry.{Entry}
use Rattle.bson.specs.declared.document.entry.OccupiedEntry.{OccupiedEntry}
use Rattle.bson.specs.LoanTypes.{bson_rust_type, document_rust_type}
use Rattle.bson.specs.View.{contents, document_of_pairs}

-- the reference to the document
abbrev pub entry_document : Entry → MutBor Document
entry_document (Occupied entry) = entry.document
entry_document (Vacant entry) = entry.document

-- the key that was asked for
abbrev pub entry_key : Entry → List ℕ
entry_key (Occupied entry) = string_bytes entry.key
entry_key (Vacant entry) = string_bytes entry.key

-- the value that the key has
abbrev pub entry_value : Entry → Option Bson
entry_value entry = get (entry_key entry) (contents (entry_document entry).now)

-- the document with the new value at the entry's key
abbrev pub with_new_value : (entry : Entry) → (new_value : Bson) → Document
with_new_value entry new_value =
    document_of_pairs (insert_pair (entry_key entry) new_value (contents (entry_document entry).now))

-- the entry is occupied exactly if there is a value
abbrev pub EntryMatchesValue : (entry : Entry) → (found_value : Option Bson) → Type 0
EntryMatchesValue (Occupied entry) found_value = IsTrue (is_some found_value)
EntryMatchesValue (Vacant entry) found_value = found_value ≡ None

-- once the loan of the reference ends, the document has the last value written through it at the entry's key; without a loan it stays
abbrev pub writes_back_at_entry : {E : Type 0} → (entry : Entry) → (value_reference : Result (MutBor Bson) E) → Fml
writes_back_at_entry entry value_reference =
    follows_if document_rust_type bson_rust_type (entry_document entry).ghost_name
    (name_if_ok (λ reference. reference.ghost_name) value_reference) (with_new_value entry) (entry_document entry).now

abbrev pub writes_back_at_occupied : (entry : OccupiedEntry) → (value_reference : MutBor Bson) → Fml
writes_back_at_occupied entry value_reference =
    follows document_rust_type bson_rust_type entry.document.ghost_name value_reference.ghost_name
    (with_new_value (Occupied entry))
