-- What a writer of values in memory has pushed: for private clauses.
use Rattle.std.specs.Prelude.{◌≡◌, ◌++◌, ◌∷◌, [], ℕ, Bool, true, false, List, map, String, string_bytes}
use Rattle.std.specs.declared.alloc.Global.{Global}
use Rattle.bson_text.specs.TraversalResults.{each_key_once}
use Rattle.bson_model.specs.Sorted.{insert_sorted_pair, sorted, sorted_pairs}
use Rattle.bson_model.specs.Value.{Value, Pairs, no_pairs, pair}
use Rattle.bson_store.specs.KeyIndex.{stored_pairs}
use Rattle.bson.specs.View.{bson_view, document_view}
use Rattle.bson.specs.declared.bson.Bson.{Bson}
use Rattle.bson.specs.declared.bson.Bson.TheVariants as bson
use Rattle.bson.specs.declared.document.Document.{Document}
use Rattle.bson_model.specs.declared.options.KeyOrder.{KeyOrder}
use Rattle.bson_model.specs.declared.options.KeyOrder.TheVariants.{Ascending, AsGiven}
use Rattle.bson.specs.declared.extjson.bson_writer.EnclosingContainer.{EnclosingContainer}
use Rattle.bson.specs.declared.extjson.bson_writer.BsonWriter.{BsonWriter}
use Rattle.bson.specs.declared.extjson.bson_writer.Container.{Container}
use Rattle.bson.specs.declared.extjson.bson_writer.Container.TheVariants.{Array, Document as OfPairs}

-- the value, each document with its keys in the order
abbrev pub value_in_order : (key_order : KeyOrder) → (bson_value : Value) → Value
value_in_order Ascending bson_value = sorted bson_value
value_in_order AsGiven bson_value = bson_value

abbrev pub pairs_by_key_order : (key_order : KeyOrder) → (pair_list : Pairs) → Pairs
pairs_by_key_order Ascending pair_list = sorted_pairs pair_list
pairs_by_key_order AsGiven pair_list = pair_list

-- the pairs after each is inserted in ascending key order
abbrev pub insert_entries_by_key : (pair_list : Pairs) → (merged : Pairs) → Pairs
insert_entries_by_key no_pairs merged = merged
insert_entries_by_key (pair key_bytes bson_value pair_list) merged =
    insert_entries_by_key pair_list (insert_sorted_pair key_bytes bson_value merged)

-- the document of the pairs, each key once: of a duplicate key the last value
abbrev pub document_in_order : (key_order : KeyOrder) → (pair_list : Pairs) → Pairs
document_in_order Ascending pair_list = insert_entries_by_key pair_list no_pairs
document_in_order AsGiven pair_list = each_key_once pair_list

-- what a container holds, each value with its key, which an array has none of
abbrev pub container_pairs : (container : Container) → List (List ℕ × Bson)
container_pairs (Array values) = map (λ value. ([], value)) values.items
container_pairs (OfPairs entries) = stored_pairs entries.items

abbrev pub is_document : Container → Bool
is_document (Array values) = false
is_document (OfPairs entries) = true

-- the key of a value with this name in the container: empty in an array
abbrev pub key_in_container : (container : Container) → (key_bytes : List ℕ) → List ℕ
key_in_container (Array values) key_bytes = []
key_in_container (OfPairs entries) key_bytes = key_bytes

-- the value is last, after the old ones
abbrev pub HasPushedBson : (old_writer : BsonWriter) → (key_bytes : List ℕ) → (pushed_value : Bson)
    → (new_writer : BsonWriter) → Type 0
HasPushedBson old_writer key_bytes pushed_value new_writer = (new_writer.key_order ≡ old_writer.key_order)
    × (is_document new_writer.container ≡ is_document old_writer.container)
    × (container_pairs new_writer.container
    ≡ container_pairs old_writer.container ++ (key_in_container old_writer.container key_bytes, pushed_value) ∷ [])

abbrev pub HasPushedValue : (old_writer : BsonWriter) → (key_bytes : List ℕ) → (bson_value : Value)
    → (new_writer : BsonWriter) → Type 0
HasPushedValue old_writer key_bytes bson_value new_writer =
    (pushed_value : Bson) × HasPushedBson old_writer key_bytes pushed_value new_writer
    × (bson_view pushed_value ≡ value_in_order old_writer.key_order bson_value)

abbrev pub HasPushedDocument : (old_writer : BsonWriter) → (pair_list : Pairs) → (new_writer : BsonWriter) → Type 0
HasPushedDocument old_writer pair_list new_writer = (pushed_document : Document)
    × HasPushedBson old_writer (string_bytes old_writer.key) (bson.Document pushed_document) new_writer
    × (document_view pushed_document ≡ pairs_by_key_order old_writer.key_order pair_list)

-- the old container was saved with its key, and one of this kind is open, which has these members
abbrev pub HasBegunContainer : (old_writer : BsonWriter) → (key_bytes : List ℕ) → (enclosing : EnclosingContainer)
    → (holds_pairs : Bool)
    → (pair_list : List (List ℕ × Bson)) → (new_writer : BsonWriter) → Type 0
HasBegunContainer old_writer key_bytes enclosing holds_pairs pair_list new_writer =
    (new_writer.key_order ≡ old_writer.key_order)
    × (is_document new_writer.container ≡ holds_pairs) × (container_pairs new_writer.container ≡ pair_list)
    × (enclosing.outer ≡ old_writer.container)
    × (key_in_container old_writer.container (string_bytes enclosing.key)
    ≡ key_in_container old_writer.container key_bytes)

abbrev pub HasBegunArray : (old_writer : BsonWriter) → (key_bytes : List ℕ) → (enclosing : EnclosingContainer)
    → (new_writer : BsonWriter) → Type 0
HasBegunArray old_writer key_bytes enclosing new_writer =
    HasBegunContainer old_writer key_bytes enclosing false [] new_writer

abbrev pub HasBegunDocument : (old_writer : BsonWriter) → (enclosing : EnclosingContainer) → (new_writer : BsonWriter)
    → Type 0
HasBegunDocument old_writer enclosing new_writer =
    HasBegunContainer old_writer (string_bytes old_writer.key) enclosing true [] new_writer

abbrev pub HasBegunCode : (old_writer : BsonWriter) → (key_bytes code_bytes : List ℕ) → (enclosing : EnclosingContainer)
    → (new_writer : BsonWriter) → Type 0
HasBegunCode old_writer key_bytes code_bytes enclosing new_writer =
    (code : String Global) × (string_bytes code ≡ code_bytes)
    × HasBegunContainer old_writer key_bytes enclosing false (([], bson.JavaScriptCode code) ∷ []) new_writer
