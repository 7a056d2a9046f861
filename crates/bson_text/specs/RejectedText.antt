-- What the refusal of a text denies of that text.
use Rattle.std.specs.Prelude.{◌≡◌, ℕ, List, [], Bool, false, None, Some, codes, ◌&&◌, ⊤}
use Rattle.std.specs.Str.{bytes_eq}
use Rattle.json.specs.Json as json
use Rattle.json.specs.Json.{value}
use Rattle.json.specs.Lex.{tokens}
use Rattle.json.specs.Strict.{HasUniqueKeys, keys}
use Rattle.serde_json.specs.Read.{max_depth}
use Rattle.bson_scalar.specs.declared.form.Doubles.{Doubles}
use Rattle.bson_model.specs.Value.{Value}
use Rattle.bson_model.specs.OrderedTexts.{HasMeaningInOrder}
use Rattle.bson_model.specs.declared.options.KeyOrder.{KeyOrder}
use Rattle.bson_model.specs.declared.options.KeyOrder.TheVariants.{Ascending, AsGiven}
use Rattle.bson_tokens.specs.PutMembers.{KeysAscendFrom}
use Rattle.bson_text.specs.declared.traversal_error.TraversalError.{TraversalError}
use Rattle.bson_text.specs.declared.traversal_error.TraversalError.TheVariants.{OutOfMemory, DuplicateKey, GaveUp, Syntax, Fault}

-- the first two keys of an object are `$scope` and `$code`, in this order
abbrev pub has_scope_before_code : json.Members → Bool
has_scope_before_code json.no_members = false
has_scope_before_code (json.member member_key json_value json.no_members) = false
has_scope_before_code (json.member member_key json_value (json.member second_key second_value json_members)) =
    bytes_eq member_key (codes "$scope") && bytes_eq second_key (codes "$code")

-- the first two keys of no object are these, at any depth
abbrev mutual
  pub CodeBeforeScope : json.Json → Type 0
  CodeBeforeScope json.null = ⊤
  CodeBeforeScope (json.boolean truth) = ⊤
  CodeBeforeScope (json.number scalar_text) = ⊤
  CodeBeforeScope (json.string scalar_text) = ⊤
  CodeBeforeScope (json.array json_items) = ItemsCodeBeforeScope json_items
  CodeBeforeScope (json.object json_members) = (has_scope_before_code json_members ≡ false)
      × MembersCodeBeforeScope json_members

  pub ItemsCodeBeforeScope : json.Items → Type 0
  ItemsCodeBeforeScope json.no_items = ⊤
  ItemsCodeBeforeScope (json.item json_value json_items) = CodeBeforeScope json_value × ItemsCodeBeforeScope json_items

  pub MembersCodeBeforeScope : json.Members → Type 0
  MembersCodeBeforeScope json.no_members = ⊤
  MembersCodeBeforeScope (json.member member_key json_value json_members) = CodeBeforeScope json_value
      × MembersCodeBeforeScope json_members

-- the text is this JSON, which nests at most 127 levels
abbrev pub IsJsonWithinDepth : (text : List ℕ) → json.Json → Type 0
IsJsonWithinDepth text json_value = value max_depth (tokens text) ≡ Some (json_value, [])

abbrev pub begins_with_scope : json.Members → Bool
begins_with_scope json.no_members = false
begins_with_scope (json.member member_key json_value json_members) = bytes_eq member_key (codes "$scope")

-- no object begins with the key `$scope`, and if keys are sorted, those of each object ascend
abbrev mutual
  pub IsStreamable : (WriterSortsKeys : Type 0) → json.Json → Type 0
  IsStreamable WriterSortsKeys json.null = ⊤
  IsStreamable WriterSortsKeys (json.boolean truth) = ⊤
  IsStreamable WriterSortsKeys (json.number scalar_text) = ⊤
  IsStreamable WriterSortsKeys (json.string scalar_text) = ⊤
  IsStreamable WriterSortsKeys (json.array json_items) = ItemsAreStreamable WriterSortsKeys json_items
  IsStreamable WriterSortsKeys (json.object json_members) =
      ((begins_with_scope json_members ≡ false) × (WriterSortsKeys → KeysAscendFrom None (keys json_members)))
      × MembersAreStreamable WriterSortsKeys json_members

  pub ItemsAreStreamable : (WriterSortsKeys : Type 0) → json.Items → Type 0
  ItemsAreStreamable WriterSortsKeys json.no_items = ⊤
  ItemsAreStreamable WriterSortsKeys (json.item json_value json_items) = IsStreamable WriterSortsKeys json_value
      × ItemsAreStreamable WriterSortsKeys json_items

  pub MembersAreStreamable : (WriterSortsKeys : Type 0) → json.Members → Type 0
  MembersAreStreamable WriterSortsKeys json.no_members = ⊤
  MembersAreStreamable WriterSortsKeys (json.member member_key json_value json_members) =
      IsStreamable WriterSortsKeys json_value × MembersAreStreamable WriterSortsKeys json_members

-- keys are sorted, so keys that do not ascend may be given up
abbrev pub SortsKeys : KeyOrder → Type 0
SortsKeys Ascending = ⊤
SortsKeys AsGiven = ⊥

-- A text is rejected for this reason. `WriterMayGiveUp` and `WriterSortsKeys` say what may be given up: any text, or keys that do not ascend.
abbrev pub IsRejectedText : Doubles → (WriterMayGiveUp WriterSortsKeys : Type 0) → (text : List ℕ) → TraversalError
    → Type 0
IsRejectedText doubles WriterMayGiveUp WriterSortsKeys text OutOfMemory = ⊤
IsRejectedText doubles WriterMayGiveUp WriterSortsKeys text DuplicateKey = (json_value : json.Json)
    → IsJsonWithinDepth text json_value → HasUniqueKeys json_value → ⊥
IsRejectedText doubles WriterMayGiveUp WriterSortsKeys text GaveUp = (json_value : json.Json)
    → IsJsonWithinDepth text json_value → IsStreamable WriterSortsKeys json_value → (WriterMayGiveUp → ⊥) → ⊥
IsRejectedText doubles WriterMayGiveUp WriterSortsKeys text Syntax = (json_value : json.Json) (bson_value : Value)
    → IsJsonWithinDepth text json_value → HasUniqueKeys json_value → CodeBeforeScope json_value
    → HasMeaningInOrder doubles text bson_value → ⊥
IsRejectedText doubles WriterMayGiveUp WriterSortsKeys text (Fault place) =
    (json_value : json.Json) (bson_value : Value) → IsJsonWithinDepth text json_value → HasUniqueKeys json_value
    → CodeBeforeScope json_value → HasMeaningInOrder doubles text bson_value → ⊥
