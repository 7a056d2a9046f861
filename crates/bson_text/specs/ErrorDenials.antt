-- What an error of the traversal rules out about the input: for private clauses.
use Rattle.std.specs.Prelude.{◌≡◌, ◌<◌, ◌-◌, ℕ, List, Bool, true, false, Option, None, Some, Ok, option_map, option_and_then, ⊤}
use Rattle.json.specs.Json as json
use Rattle.json.specs.Json.{read_key}
use Rattle.json.specs.Strict.{HasUniqueKeys, ItemsHaveUniqueKeys, keys}
use Rattle.json.specs.Token.{Token}
use Rattle.serde_json.specs.Data.{Data, Num, Items, Members, no_members, member}
use Rattle.serde_json.specs.Read.{number_of}
use Rattle.bson_scalar.specs.Reading.{number_read_in}
use Rattle.bson_scalar.specs.Scalar.{Scalar}
use Rattle.bson_scalar.specs.Table.{has_wrapper}
use Rattle.bson_scalar.specs.declared.form.Doubles.{Doubles}
use Rattle.bson_model.specs.Value.{Value, Values, Pairs}
use Rattle.bson_model.specs.OrderedTrees.{tree_of_json, items_of_json}
use Rattle.bson_model.specs.OrderedReading.{reads_tree_in_order, reads_items_in_order, reads_members_in_order, reads_scope_in_order}
use Rattle.bson_text.specs.TraversalResults.{members_after_brace}
use Rattle.bson_tokens.specs.PutMembers.{KeysAscendFrom}
use Rattle.bson_text.specs.RejectedText.{CodeBeforeScope, ItemsCodeBeforeScope, MembersCodeBeforeScope, IsJsonWithinDepth}
use Rattle.bson_text.specs.RejectedText.{IsStreamable, ItemsAreStreamable, MembersAreStreamable}
use Rattle.bson_text.specs.TraversalErrors.{ErrorRulesOut, IsNotParsed}
use Rattle.bson_text.specs.declared.traversal_error.TraversalError.{TraversalError}

-- the trees of the members in input order
abbrev pub members_as_given : json.Members → Option Members
members_as_given json.no_members = Some no_members
members_as_given (json.member member_key json_value json_members) =
    option_and_then (λ member_tree. option_map (member member_key member_tree) (members_as_given json_members))
    (tree_of_json json_value)

abbrev pub EndsObject : (code_follows_scope : Bool) → (input_tokens : List Token) → Type 0
EndsObject true input_tokens = ⊥
EndsObject false input_tokens = (tokens_after : List Token) × (read_key input_tokens ≡ Some (None, tokens_after))

abbrev pub ErrorRulesOutEnd : (reported_error : TraversalError) → (code_follows_scope : Bool)
    → (input_tokens : List Token) → Type 0
ErrorRulesOutEnd reported_error code_follows_scope input_tokens =
    ErrorRulesOut reported_error ⊤ ⊤ (EndsObject code_follows_scope input_tokens) → ⊥

-- neither the writer nor the traversal gives up
abbrev pub ValueCanBeStreamed : (WriterMayGiveUp WriterSortsKeys : Type 0) → json.Json → Type 0
ValueCanBeStreamed WriterMayGiveUp WriterSortsKeys json_value = (WriterMayGiveUp → ⊥)
    × IsStreamable WriterSortsKeys json_value

abbrev pub ItemsCanBeStreamed : (WriterMayGiveUp WriterSortsKeys : Type 0) → json.Items → Type 0
ItemsCanBeStreamed WriterMayGiveUp WriterSortsKeys json_items = (WriterMayGiveUp → ⊥)
    × ItemsAreStreamable WriterSortsKeys json_items

abbrev pub MembersCanBeStreamed : (WriterMayGiveUp WriterSortsKeys : Type 0) → json.Members → Type 0
MembersCanBeStreamed WriterMayGiveUp WriterSortsKeys json_members = (WriterMayGiveUp → ⊥)
    × ((WriterSortsKeys → KeysAscendFrom None (keys json_members)) × MembersAreStreamable WriterSortsKeys json_members)

module _ (doubles : Doubles) where
  -- it denotes a value in its order
  abbrev pub IsMeaningful : json.Json → Type 0
  IsMeaningful json_value = CodeBeforeScope json_value × (value_tree : Data) × (bson_value : Value)
      × (tree_of_json json_value ≡ Some value_tree) × (reads_tree_in_order doubles value_tree ≡ Ok bson_value)

  abbrev pub ItemsAreMeaningful : json.Items → Type 0
  ItemsAreMeaningful json_items = ItemsCodeBeforeScope json_items × (tree_items : Items) × (item_values : Values)
      × (items_of_json json_items ≡ Some tree_items)
      × (reads_items_in_order doubles tree_items ≡ Ok item_values)

  -- the members alone, whose keys are not wrapper keys if they are a document's
  abbrev pub MembersAreMeaningful : (is_document : Bool) → json.Members → Type 0
  MembersAreMeaningful is_document json_members = MembersCodeBeforeScope json_members × (tree_members : Members)
      × (document_pairs : Pairs) × (members_as_given json_members ≡ Some tree_members)
      × (reads_members_in_order doubles tree_members ≡ Ok document_pairs)
      × (is_document ≡ true → has_wrapper tree_members ≡ false)

  -- a scope, after which the object ends
  abbrev pub ScopeIsMeaningful : (code_follows_scope : Bool) → json.Json → (remaining_tokens : List Token) → Type 0
  ScopeIsMeaningful true json_value remaining_tokens = ⊥
  ScopeIsMeaningful false json_value remaining_tokens = CodeBeforeScope json_value × (value_tree : Data)
      × (scope : Option Pairs) × (tree_of_json json_value ≡ Some value_tree)
      × (reads_scope_in_order doubles value_tree ≡ Ok scope) × (tokens_after : List Token)
      × (read_key remaining_tokens ≡ Some (None, tokens_after))

  abbrev pub ErrorRulesOutNumber : (reported_error : TraversalError) → (number_text : List ℕ) → Type 0
  ErrorRulesOutNumber reported_error number_text = ErrorRulesOut reported_error ⊤ ⊤ ((number_value : Num)
      × (scalar_value : Scalar) × (number_of number_text ≡ Some number_value)
      × (number_read_in doubles number_value ≡ Ok scalar_value)) → ⊥

module _ (doubles : Doubles) (WriterMayGiveUp WriterSortsKeys : Type 0) where
  -- ---- what an error rules out about the input

  abbrev pub ErrorRulesOutValueClaim : (reported_error : TraversalError) → json.Json → Type 0
  ErrorRulesOutValueClaim reported_error json_value =
      ErrorRulesOut reported_error (ValueCanBeStreamed WriterMayGiveUp WriterSortsKeys json_value)
      (HasUniqueKeys json_value) (IsMeaningful doubles json_value)

  abbrev pub ErrorRulesOutItemsClaim : (reported_error : TraversalError) → json.Items → Type 0
  ErrorRulesOutItemsClaim reported_error json_items =
      ErrorRulesOut reported_error (ItemsCanBeStreamed WriterMayGiveUp WriterSortsKeys json_items)
      (ItemsHaveUniqueKeys json_items) (ItemsAreMeaningful doubles json_items)

  abbrev pub ErrorRulesOutMembersClaim : (reported_error : TraversalError) → (for_document : Bool) → json.Members
      → Type 0
  ErrorRulesOutMembersClaim reported_error for_document json_members =
      ErrorRulesOut reported_error (MembersCanBeStreamed WriterMayGiveUp WriterSortsKeys json_members)
      (HasUniqueKeys (json.object json_members)) (MembersAreMeaningful doubles for_document json_members)

  abbrev pub ErrorRulesOutCodeClaim : (reported_error : TraversalError) → (code_follows_scope : Bool) → json.Json
      → (tokens_after_value : List Token) → Type 0
  ErrorRulesOutCodeClaim reported_error code_follows_scope json_value tokens_after_value =
      ErrorRulesOut reported_error (ValueCanBeStreamed WriterMayGiveUp WriterSortsKeys json_value)
      (HasUniqueKeys json_value) (ScopeIsMeaningful doubles code_follows_scope json_value tokens_after_value)

  abbrev pub ErrorRulesOutValue : (reported_error : TraversalError) → (parsed : Option (json.Json × List Token))
      → Type 0
  ErrorRulesOutValue reported_error parsed =
      IsNotParsed parsed (λ json_value tokens_after_value. ErrorRulesOutValueClaim reported_error json_value)

  abbrev pub ErrorRulesOutItems : (reported_error : TraversalError) → (parsed : Option (json.Items × List Token))
      → Type 0
  ErrorRulesOutItems reported_error parsed =
      IsNotParsed parsed (λ json_items tokens_after_value. ErrorRulesOutItemsClaim reported_error json_items)

  abbrev pub ErrorRulesOutObject : (reported_error : TraversalError) → (parsed : Option (json.Members × List Token))
      → Type 0
  ErrorRulesOutObject reported_error parsed =
      IsNotParsed parsed
      (λ json_members tokens_after_value. ErrorRulesOutValueClaim reported_error (json.object json_members))

  abbrev pub ErrorRulesOutMembers : (reported_error : TraversalError) → (is_document : Bool)
      → (parsed : Option (json.Members × List Token)) → Type 0
  ErrorRulesOutMembers reported_error is_document parsed =
      IsNotParsed parsed
      (λ json_members tokens_after_value. ErrorRulesOutMembersClaim reported_error is_document json_members)

  abbrev pub ErrorRulesOutScope : (reported_error : TraversalError) → (depth : ℕ) → (input_tokens : List Token) → Type 0
  ErrorRulesOutScope reported_error depth input_tokens = 0 < depth
      → ErrorRulesOutMembers reported_error false (members_after_brace (depth - 1) input_tokens)

  abbrev pub ErrorRulesOutCode : (reported_error : TraversalError) → (code_follows_scope : Bool)
      → (parsed : Option (json.Json × List Token)) → Type 0
  ErrorRulesOutCode reported_error code_follows_scope parsed =
      IsNotParsed parsed
      (λ json_value tokens_after_value.
      ErrorRulesOutCodeClaim reported_error code_follows_scope json_value tokens_after_value)

  -- the text is not JSON within the depth that has what the error rules out
  abbrev pub ErrorRulesOutText : (reported_error : TraversalError) → (text : List ℕ) → Type 0
  ErrorRulesOutText reported_error text = (json_value : json.Json) → IsJsonWithinDepth text json_value
      → ErrorRulesOutValueClaim reported_error json_value → ⊥
