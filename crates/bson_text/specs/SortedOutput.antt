-- What a writer of a text with ascending keys has written: for private clauses.
use Rattle.std.specs.Prelude.{◌≡◌, ◌++◌, ◌∷◌, [], ℕ, List, length, Bool, true, false, Ok}
use Rattle.json.specs.Print.{quoted}
use Rattle.serde_json.specs.Data.{Data, Members, object}
use Rattle.serde_json.specs.Written.{comma_if}
use Rattle.bson_scalar.specs.TreeText.{text_of}
use Rattle.bson_model.specs.Sorted.{sorted, sorted_pairs}
use Rattle.bson_model.specs.Value.{Value, Pairs}
use Rattle.bson_model.specs.Writing.{writes_value_in, writes_pairs_in}
use Rattle.bson_text.specs.declared.sorted_writer.ContainerStart.{ContainerStart}
use Rattle.bson_text.specs.declared.sorted_writer.SortedWriter.{SortedWriter}

-- the text so far, and the comma before the next value
abbrev pub output_with_comma : (writer_state : SortedWriter) → List ℕ
output_with_comma writer_state = writer_state.text.items ++ comma_if writer_state.needs_comma

-- this text comes after the old text, a comma is needed after it or not, and nothing else changes
abbrev pub HasOutputAdded : (old : SortedWriter) → (added : List ℕ) → (needs_comma : Bool) → (new : SortedWriter)
    → Type 0
HasOutputAdded old text_bytes needs_comma new = (new.doubles ≡ old.doubles) × (new.form ≡ old.form)
    × (new.needs_comma ≡ needs_comma)
    × (new.member_starts.items ≡ old.member_starts.items) × (new.text.items ≡ old.text.items ++ text_bytes)

-- the same with a comma if one is needed
abbrev pub HasOutputAfterComma : (old : SortedWriter) → (added : List ℕ) → (needs_comma : Bool) → (new : SortedWriter)
    → Type 0
HasOutputAfterComma old text_bytes needs_comma new =
    HasOutputAdded old (comma_if old.needs_comma ++ text_bytes) needs_comma new

abbrev pub HasSortedValue : (old : SortedWriter) → Value → (new : SortedWriter) → Type 0
HasSortedValue old written_value new = (value_tree : Data)
    × (writes_value_in old.doubles old.form (sorted written_value) ≡ Ok value_tree)
    × HasOutputAfterComma old (text_of value_tree) true new

abbrev pub HasSortedPairs : (old : SortedWriter) → Pairs → (new : SortedWriter) → Type 0
HasSortedPairs old document_pairs new = (tree_members : Members)
    × (writes_pairs_in old.doubles old.form (sorted_pairs document_pairs) ≡ Ok tree_members)
    × HasOutputAfterComma old (text_of (object tree_members)) true new

-- an object was begun: its text begins here, and its members' offsets come after those before it
abbrev pub HasBegunObject : (old : SortedWriter) → ContainerStart → (new : SortedWriter) → Type 0
HasBegunObject old container_start new = (container_start.start ≡ length (output_with_comma old))
    × (container_start.outer_member_count ≡ length old.member_starts.items)
    × HasOutputAfterComma old (123 ∷ []) false new

-- a key was added: its member begins here
abbrev pub HasKeyAdded : (old : SortedWriter) → (key_bytes : List ℕ) → (new : SortedWriter) → Type 0
HasKeyAdded old key_bytes new = (new.doubles ≡ old.doubles) × (new.form ≡ old.form) × (new.needs_comma ≡ false)
    × (new.member_starts.items ≡ old.member_starts.items ++ length (output_with_comma old) ∷ [])
    × (new.text.items ≡ output_with_comma old ++ (quoted key_bytes ++ 58 ∷ []))
