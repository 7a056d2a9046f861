-- What a writer of the text that shows values has written: for private clauses.
use Rattle.std.specs.Prelude.{◌≡◌, ◌++◌, ◌∷◌, [], ℕ, List, length, Bool, true, false, codes, if◌then◌else◌}
use Rattle.serde_json.specs.Written.{comma_if}
use Rattle.bson_model.specs.Displayed.{display_text}
use Rattle.bson_model.specs.Sorted.{sorted_items, sorted_pairs}
use Rattle.bson_model.specs.Value.{Value, Values, Pairs, scalar, code_scope, array, document}
use Rattle.bson_model.specs.declared.options.KeyOrder.{KeyOrder}
use Rattle.bson_model.specs.declared.options.KeyOrder.TheVariants.{AsGiven, Ascending}
use Rattle.bson_text.specs.declared.sorted_writer.ContainerStart.{ContainerStart}
use Rattle.bson_text.specs.declared.display_writer.DisplayWriter.{DisplayWriter}

-- what is shown of a value and of parts of one: with its keys in their order, or ascending
abbrev pub arranged_items : KeyOrder → (item_values : Values) → Values
arranged_items AsGiven item_values = item_values
arranged_items Ascending item_values = sorted_items item_values

abbrev pub arranged_pairs : KeyOrder → (document_pairs : Pairs) → Pairs
arranged_pairs AsGiven document_pairs = document_pairs
arranged_pairs Ascending document_pairs = sorted_pairs document_pairs

abbrev pub arranged_value : KeyOrder → Value → Value
arranged_value key_order (scalar scalar_value) = scalar scalar_value
arranged_value key_order (code_scope text_bytes document_pairs) =
    code_scope text_bytes (arranged_pairs key_order document_pairs)
arranged_value key_order (array item_values) = array (arranged_items key_order item_values)
arranged_value key_order (document document_pairs) = document (arranged_pairs key_order document_pairs)

-- what separates an element from one before it
abbrev pub separator_if : (needs_comma : Bool) → List ℕ
separator_if needs_comma = if needs_comma then codes ", " else []

-- the brace that ends a document, after its members or none
abbrev pub closing_brace : (needs_comma : Bool) → List ℕ
closing_brace needs_comma = if needs_comma then codes " }" else codes "}"

-- the text so far, and the separator before the next value
abbrev pub display_with_separator : (writer_state : DisplayWriter) → List ℕ
display_with_separator writer_state = writer_state.text.items ++ separator_if writer_state.needs_comma

-- this text comes after the old text, a comma is needed after it or not, and nothing else changes
abbrev pub HasDisplayAdded : (old : DisplayWriter) → (added : List ℕ) → (needs_comma : Bool) → (new : DisplayWriter)
    → Type 0
HasDisplayAdded old text_bytes needs_comma new =
    (new.needs_comma ≡ needs_comma) × (new.key_order ≡ old.key_order)
    × (new.member_starts.items ≡ old.member_starts.items)
    × (new.text.items ≡ old.text.items ++ text_bytes)

-- the same with a separator if one is needed
abbrev pub HasDisplayAfterSeparator : (old : DisplayWriter) → (added : List ℕ) → (needs_comma : Bool)
    → (new : DisplayWriter) → Type 0
HasDisplayAfterSeparator old text_bytes needs_comma new =
    HasDisplayAdded old (separator_if old.needs_comma ++ text_bytes) needs_comma new

abbrev pub HasDisplayOfValue : (old : DisplayWriter) → Value → (new : DisplayWriter) → Type 0
HasDisplayOfValue old shown_value new =
    HasDisplayAfterSeparator old (display_text (arranged_value old.key_order shown_value)) true new

abbrev pub HasDisplayOfPairs : (old : DisplayWriter) → Pairs → (new : DisplayWriter) → Type 0
HasDisplayOfPairs old document_pairs new =
    HasDisplayAfterSeparator old (display_text (document (arranged_pairs old.key_order document_pairs))) true new

-- a document was begun: its text begins here, and its members' offsets come after those before it
abbrev pub HasBegunDisplay : (old : DisplayWriter) → ContainerStart → (new : DisplayWriter) → Type 0
HasBegunDisplay old container_start new = (container_start.start ≡ length (display_with_separator old))
    × (container_start.outer_member_count ≡ length old.member_starts.items)
    × HasDisplayAfterSeparator old (codes "{") false new

-- the text up to a member that comes next
abbrev pub display_with_comma : (writer_state : DisplayWriter) → List ℕ
display_with_comma writer_state = writer_state.text.items ++ comma_if writer_state.needs_comma

-- a key was added: its member begins here, with the space before it
abbrev pub HasDisplayOfKey : (old : DisplayWriter) → (key_bytes : List ℕ) → (new : DisplayWriter) → Type 0
HasDisplayOfKey old key_bytes new = (new.needs_comma ≡ false) × (new.key_order ≡ old.key_order)
    × (new.member_starts.items ≡ old.member_starts.items ++ length (display_with_comma old) ∷ [])
    × (new.text.items ≡ display_with_comma old ++ (codes " \"" ++ (key_bytes ++ codes "\": ")))

-- code was added, and the text of its scope begins here
abbrev pub HasBegunCodeDisplay : (old : DisplayWriter) → (text_bytes : List ℕ) → ContainerStart → (new : DisplayWriter)
    → Type 0
HasBegunCodeDisplay old text_bytes container_start new = (container_start.start ≡ length new.text.items)
    × HasDisplayAfterSeparator old text_bytes false new
