-- What the traversal of a text's tokens has read, and that the writer has written its value. For private
-- clauses.
use Rattle.std.specs.Prelude.{◌≡◌, ◌<◌, ◌+◌, ◌-◌, ℕ, List, [], ◌∷◌, length, Bool, true, false, Option, None, Some, Ok}
use Rattle.std.specs.Prelude.{codes, if◌then◌else◌}
use Rattle.std.specs.Str.{bytes_eq}
use Rattle.json.specs.Json as json
use Rattle.json.specs.Json.{value, members, members_step, read_key}
use Rattle.json.specs.Token.{Token, string}
use Rattle.serde_json.specs.Data.{Data, Items, Members, no_members, object}
use Rattle.serde_json.specs.Read.{converted}
use Rattle.bson_scalar.specs.Table.{has_wrapper}
use Rattle.bson_scalar.specs.declared.form.Doubles.{Doubles}
use Rattle.bson_model.specs.Reading.{code_value}
use Rattle.bson_model.specs.Value as model
use Rattle.bson_model.specs.Value.{Value, Values, no_values, Pairs, no_pairs, pair}
use Rattle.bson_model.specs.OrderedTrees.{tree_of_json, members_of_json}
use Rattle.bson_model.specs.OrderedReading.{reads_tree_in_order, reads_items_in_order, reads_members_in_order, reads_scope_in_order}

-- the elements of an array from the place n on were written in turn, each under its place's name
abbrev pub ItemsWritten : {WriterState : Type 0} → (wrote_value : WriterState → List ℕ → Value → WriterState → Type 0)
    → (name_of_item : ℕ → List ℕ) → (item_index : ℕ) → Values → (state_before state_after : WriterState) → Type 0
ItemsWritten wrote_value name_of_item item_index no_values state_before state_after = state_before ≡ state_after
ItemsWritten {WriterState} wrote_value name_of_item item_index
    (model.value written_value item_values) state_before state_after =
    (state_between : WriterState) × wrote_value state_before (name_of_item item_index) written_value state_between
    × ItemsWritten wrote_value name_of_item (item_index + 1) item_values state_between state_after

-- the pairs of a document were written in turn, each key and then its value
abbrev pub PairsWritten : {WriterState : Type 0} → (wrote_value : WriterState → List ℕ → Value → WriterState → Type 0)
    → (wrote_key : WriterState → List ℕ → WriterState → Type 0) → Pairs → (state_before state_after : WriterState)
    → Type 0
PairsWritten wrote_value wrote_key no_pairs state_before state_after = state_before ≡ state_after
PairsWritten {WriterState} wrote_value wrote_key
    (pair key_bytes written_value document_pairs) state_before state_after =
    (state_after_key : WriterState) × (state_between : WriterState) × wrote_key state_before key_bytes state_after_key
    × wrote_value state_after_key key_bytes written_value state_between
    × PairsWritten wrote_value wrote_key document_pairs state_between state_after

abbrev pub keys_of : Pairs → List (List ℕ)
keys_of no_pairs = []
keys_of (pair key_bytes written_value document_pairs) = key_bytes ∷ keys_of document_pairs

-- the pairs with this value at the key: at its position if the key exists, otherwise last
abbrev pub with_pair_set : (key_bytes : List ℕ) → Value → Pairs → Pairs
with_pair_set key_bytes written_value no_pairs = pair key_bytes written_value no_pairs
with_pair_set key_bytes written_value (pair other_key other_value document_pairs) =
    if bytes_eq key_bytes other_key then pair other_key written_value document_pairs
    else pair other_key other_value (with_pair_set key_bytes written_value document_pairs)

-- the pairs after each in turn is set
abbrev pub with_pairs_set : (new_pairs pairs_so_far : Pairs) → Pairs
with_pairs_set no_pairs pairs_so_far = pairs_so_far
with_pairs_set (pair key_bytes written_value document_pairs) pairs_so_far =
    with_pairs_set document_pairs (with_pair_set key_bytes written_value pairs_so_far)

-- each key once: a duplicate key has its last value, at its first position
abbrev pub each_key_once : (document_pairs : Pairs) → Pairs
each_key_once document_pairs = with_pairs_set document_pairs no_pairs

-- the members of an object, in their order
abbrev pub tree_members_in_order : (parsed : Option (json.Members × List Token)) → Option (Members × List Token)
tree_members_in_order parsed = converted (λ json_members. members_of_json json_members no_members) parsed

-- the members of an object whose brace was read, and those after a key that was read, or after its end
abbrev pub members_after_brace : (depth : ℕ) → (input_tokens : List Token) → Option (json.Members × List Token)
members_after_brace depth input_tokens = members (value depth) (length input_tokens) input_tokens

abbrev pub members_after_key : (depth : ℕ) → (key_bytes : Option (List ℕ)) → (input_tokens : List Token)
    → Option (json.Members × List Token)
members_after_key depth key_bytes input_tokens =
    members_step (value depth) (members (value depth) (length input_tokens)) key_bytes input_tokens

-- the end of an object of this code and its scope; the code comes before the end if it follows the scope
abbrev pub IsEndOfCode : (code_bytes : List ℕ) → (code_follows_scope : Bool)
    → (input_tokens remaining_tokens : List Token) → Type 0
IsEndOfCode code_bytes false input_tokens remaining_tokens = read_key input_tokens ≡ Some (None, remaining_tokens)
IsEndOfCode code_bytes true input_tokens remaining_tokens =
    (tokens_after_value : List Token)
    × (read_key input_tokens ≡ Some (Some (codes "$code"), string code_bytes ∷ tokens_after_value))
    × (read_key tokens_after_value ≡ Some (None, remaining_tokens))

module _ (doubles : Doubles) where
  -- a tree was read, of which these tokens are left, and of the value that it means in its order this holds
  abbrev pub ReadsTree : (tree : Option (Data × List Token)) → (remaining_tokens : List Token)
      → (Holds : Value → Type 0) → Type 0
  ReadsTree tree remaining_tokens Holds = (value_tree : Data) × (written_value : Value)
      × (tree ≡ Some (value_tree, remaining_tokens)) × (reads_tree_in_order doubles value_tree ≡ Ok written_value)
      × Holds written_value

  -- the same of the trees of a list, and of the members of an object
  abbrev pub ReadsItems : (trees : Option (Items × List Token)) → (remaining_tokens : List Token)
      → (Holds : Values → Type 0) → Type 0
  ReadsItems trees remaining_tokens Holds =
      (tree_items : Items) × (item_values : Values) × (trees ≡ Some (tree_items, remaining_tokens))
      × (reads_items_in_order doubles tree_items ≡ Ok item_values) × Holds item_values

  abbrev pub ReadsObject : (trees : Option (Members × List Token)) → (remaining_tokens : List Token)
      → (Holds : Value → Type 0) → Type 0
  ReadsObject trees remaining_tokens Holds =
      (tree_members : Members) × (written_value : Value) × (trees ≡ Some (tree_members, remaining_tokens))
      × (reads_tree_in_order doubles (object tree_members) ≡ Ok written_value) × Holds written_value

  -- the members alone, whose keys are no wrapper's where they are a document's
  abbrev pub ReadsMembers : (is_document : Bool) → (trees : Option (Members × List Token))
      → (remaining_tokens : List Token) → (Holds : Pairs → Type 0)
      → Type 0
  ReadsMembers is_document trees remaining_tokens Holds =
      (tree_members : Members) × (document_pairs : Pairs) × (trees ≡ Some (tree_members, remaining_tokens))
      × (reads_members_in_order doubles tree_members ≡ Ok document_pairs)
      × (is_document ≡ true → has_wrapper tree_members ≡ false) × Holds document_pairs

  -- the document of a scope whose brace was read, in an object that may hold others so deep
  abbrev pub ReadsScope : (depth : ℕ) → (input_tokens remaining_tokens : List Token) → (Holds : Pairs → Type 0) → Type 0
  ReadsScope depth input_tokens remaining_tokens Holds = (0 < depth)
      × ReadsMembers false (tree_members_in_order (members_after_brace (depth - 1) input_tokens)) remaining_tokens Holds

  -- code from the scope's value on, to the end of their object
  abbrev pub ReadsCode : (depth : ℕ) → (code_bytes : List ℕ) → (code_follows_scope : Bool)
      → (input_tokens remaining_tokens : List Token) → (Holds : Value → Type 0) → Type 0
  ReadsCode depth code_bytes code_follows_scope input_tokens remaining_tokens Holds =
      (scope_tree : Data) × (scope : Option Pairs) × (tokens_after_value : List Token)
      × (converted tree_of_json (value depth input_tokens) ≡ Some (scope_tree, tokens_after_value))
      × (length tokens_after_value < length input_tokens)
      × IsEndOfCode code_bytes code_follows_scope tokens_after_value remaining_tokens
      × (reads_scope_in_order doubles scope_tree ≡ Ok scope)
      × Holds (code_value code_bytes scope)
