-- Where the traversal finds the first error, and the remaining tokens.
use Rattle.std.specs.Prelude.{◌≡◌, ◌<◌, ◌-◌, ℕ, List, [], ◌∷◌, ◌++◌, Bool, true, false, Option, None, Some, codes}
use Rattle.std.specs.Prelude.{option_map, option_and_then, ⊤, ◌||◌, ◌&&◌, is_some, Result, Box}
use Rattle.std.specs.Cmp.Lexicographic.{slice_cmp}
use Rattle.std.specs.Ordering.{nat_cmp}
use Rattle.std.specs.declared.alloc.Global.{Global}
use Rattle.std.specs.declared.cmp.Ordering.TheVariants.{Less}
use Rattle.json.specs.Json as json
use Rattle.json.specs.Json.{value, items, members, members_step}
use Rattle.json.specs.Token.{Token}
use Rattle.serde_json.specs.Data.{Data, Items, Members, no_members, member, object}
use Rattle.serde_json.specs.Read.{of_json, of_items}
use Rattle.bson_scalar.specs.Faults.{Fault, wrong_shape}
use Rattle.bson_scalar.specs.Scalar.{Scalar}
use Rattle.bson_scalar.specs.Table.{wrapper_of}
use Rattle.bson_scalar.specs.declared.form.Doubles.{Doubles}
use Rattle.bson_tree.specs.Place.{PathSegment, key, element, path_of, IsFaultPlace, IsReasonOfFault, IsFirstFaultIn}
use Rattle.bson_tree.specs.declared.place.Place.{Place}
use Rattle.bson_tokens.specs.FirstFault.{FaultAndPath, fault_in_tree, first_item_fault, first_member_fault, scope_fault, scalar_fault}
use Rattle.bson_tokens.specs.FirstFault as reports
use Rattle.bson_text.specs.ErrorDenials.{ErrorRulesOutValue, ErrorRulesOutItems, ErrorRulesOutObject, ErrorRulesOutMembers, ErrorRulesOutCode, ErrorRulesOutScope}
use Rattle.bson_text.specs.RejectedText.{IsJsonWithinDepth}
use Rattle.bson_text.specs.TraversalResults.{members_after_brace}
use Rattle.bson_text.specs.ScopeTokens.{IsNotScopeStart}
use Rattle.bson_text.specs.declared.traversal_error.TraversalError.{TraversalError}
use Rattle.bson_text.specs.declared.traversal_error.TraversalError.TheVariants as failure

-- ---- texts whose keys ascend

-- the key is less than each of the members'
abbrev pub IsLessThanKeys : (member_key : List ℕ) → json.Members → Type 0
IsLessThanKeys member_key json.no_members = ⊤
IsLessThanKeys member_key (json.member next_key json_value json_members) =
    (slice_cmp nat_cmp member_key next_key ≡ Less) × IsLessThanKeys member_key json_members

abbrev mutual
  pub HasSortedKeys : json.Json → Type 0
  HasSortedKeys json.null = ⊤
  HasSortedKeys (json.boolean truth) = ⊤
  HasSortedKeys (json.number scalar_text) = ⊤
  HasSortedKeys (json.string scalar_text) = ⊤
  HasSortedKeys (json.array json_items) = ItemsHaveAscendingKeys json_items
  HasSortedKeys (json.object json_members) = MembersHaveAscendingKeys json_members

  pub ItemsHaveAscendingKeys : json.Items → Type 0
  ItemsHaveAscendingKeys json.no_items = ⊤
  ItemsHaveAscendingKeys (json.item json_value json_items) = HasSortedKeys json_value
      × ItemsHaveAscendingKeys json_items

  pub MembersHaveAscendingKeys : json.Members → Type 0
  MembersHaveAscendingKeys json.no_members = ⊤
  MembersHaveAscendingKeys (json.member member_key json_value json_members) = IsLessThanKeys member_key json_members
      × HasSortedKeys json_value × MembersHaveAscendingKeys json_members

-- the trees of the members in input order
abbrev pub member_trees : json.Members → Option Members
member_trees json.no_members = Some no_members
member_trees (json.member member_key json_value json_members) =
    option_and_then (λ member_tree. option_map (member member_key member_tree) (member_trees json_members))
    (of_json json_value)

-- whether some member's key is a wrapper's
abbrev pub has_wrapper_key : json.Members → Bool
has_wrapper_key json.no_members = false
has_wrapper_key (json.member member_key json_value json_members) =
    is_some (wrapper_of member_key) || has_wrapper_key json_members

-- the first key is no wrapper's
abbrev pub FirstKeyIsNotWrapper : json.Members → Type 0
FirstKeyIsNotWrapper json.no_members = ⊤
FirstKeyIsNotWrapper (json.member member_key json_value json_members) = wrapper_of member_key ≡ None

-- ---- what a fault says

-- if the error is a fault, this holds for its place
abbrev pub IfErrorIsFault : (reported_error : TraversalError) → (HoldsForPlace : Place → Type 0) → Type 0
IfErrorIsFault failure.OutOfMemory HoldsForPlace = ⊤
IfErrorIsFault failure.DuplicateKey HoldsForPlace = ⊤
IfErrorIsFault failure.GaveUp HoldsForPlace = ⊤
IfErrorIsFault failure.Syntax HoldsForPlace = ⊤
IfErrorIsFault (failure.Fault place) HoldsForPlace = HoldsForPlace place.value

-- the place is that of the fault
abbrev pub IsPlaceOfFault : (first_fault : FaultAndPath) → Place → Type 0
IsPlaceOfFault first_fault place = IsFaultPlace (λ found_fault path. first_fault ≡ Some (found_fault, path)) place

-- the shape is wrong, here
abbrev pub IsWrongShape : Place → Type 0
IsWrongShape place = (path_of place ≡ []) × IsReasonOfFault wrong_shape place.reason

-- the same place, with one more segment
abbrev pub IsPlaceFromParent : (segment : PathSegment) → (inner_place outer_place : Place) → Type 0
IsPlaceFromParent segment inner_place outer_place = (path_of outer_place ≡ path_of inner_place ++ segment ∷ [])
    × (outer_place.reason ≡ inner_place.reason)

-- the rest of an array, or of an object, was passed over
abbrev pub SkipsItems : (depth : ℕ) → (input_tokens remaining_tokens : List Token) → Type 0
SkipsItems depth input_tokens remaining_tokens = (fuel : ℕ) (json_items : json.Items) (tokens_after : List Token)
    → items (value depth) fuel input_tokens ≡ Some (json_items, tokens_after) → remaining_tokens ≡ tokens_after

abbrev pub SkipsMembers : (depth : ℕ) → (input_tokens : List Token) → (has_later_wrapper : Bool)
    → (remaining_tokens : List Token) → Type 0
SkipsMembers depth input_tokens has_later_wrapper remaining_tokens =
    (fuel : ℕ) (json_members : json.Members) (tokens_after : List Token)
    → members (value depth) fuel input_tokens ≡ Some (json_members, tokens_after)
    → (remaining_tokens ≡ tokens_after) × (has_later_wrapper ≡ has_wrapper_key json_members)

-- a fault of an element, seen from its array
abbrev pub IsElementError : (depth item_index : ℕ) → (inner_error : TraversalError) → (input_tokens : List Token)
    → (outer_error : TraversalError) → (remaining_tokens : List Token) → Type 0
IsElementError depth item_index inner_error input_tokens outer_error remaining_tokens =
    IfErrorIsFault outer_error
    (λ outer_place. (inner_place : Box Place Global) × (inner_error ≡ failure.Fault inner_place)
    × IsPlaceFromParent (element item_index) inner_place.value outer_place
    × SkipsItems depth input_tokens remaining_tokens)

-- A fault of the value at a key, seen from its object. If a document has a wrapper key after it, that is the fault.
abbrev pub IsPlaceOfMember : (for_document : Bool) → (member_key : List ℕ) → (inner_place outer_place : Place) → Type 0
IsPlaceOfMember true member_key inner_place outer_place = IsWrongShape outer_place
IsPlaceOfMember false member_key inner_place outer_place = IsPlaceFromParent (key member_key) inner_place outer_place

abbrev pub IsMemberError : (depth : ℕ) → (is_document : Bool) → (member_key : List ℕ) → (inner_error : TraversalError)
    → (input_tokens : List Token)
    → (outer_error : TraversalError) → (remaining_tokens : List Token) → Type 0
IsMemberError depth is_document member_key inner_error input_tokens outer_error remaining_tokens =
    IfErrorIsFault outer_error
    (λ outer_place. (inner_place : Box Place Global) × (has_later_wrapper : Bool)
    × (inner_error ≡ failure.Fault inner_place)
    × SkipsMembers depth input_tokens has_later_wrapper remaining_tokens
    × IsPlaceOfMember (is_document && has_later_wrapper) member_key inner_place.value outer_place)

-- a fault at a wrapper's key, seen from its object
abbrev pub IsErrorAtKey : (member_key : List ℕ) → (inner_error outer_error : TraversalError) → Type 0
IsErrorAtKey member_key inner_error outer_error =
    IfErrorIsFault outer_error
    (λ outer_place. (inner_place : Box Place Global) × (inner_error ≡ failure.Fault inner_place)
    × IsPlaceFromParent (key member_key) inner_place.value outer_place)

-- The rest of an object was skipped, from a value on or from a key on.
abbrev pub SkipsFromValue : (depth : ℕ) → (input_tokens remaining_tokens : List Token) → Type 0
SkipsFromValue depth input_tokens remaining_tokens =
    (fuel : ℕ) (next_key : List ℕ) (json_members : json.Members) (tokens_after : List Token)
    → members_step (value depth) (members (value depth) fuel) (Some next_key) input_tokens
    ≡ Some (json_members, tokens_after) → remaining_tokens ≡ tokens_after

abbrev pub SkipsToObjectEnd : (depth : ℕ) → (input_tokens remaining_tokens : List Token) → Type 0
SkipsToObjectEnd depth input_tokens remaining_tokens =
    (fuel : ℕ) (json_members : json.Members) (tokens_after : List Token)
    → members (value depth) fuel input_tokens ≡ Some (json_members, tokens_after)
    → remaining_tokens ≡ tokens_after

abbrev pub IsWrongShapeAtKey : (depth : ℕ) → (input_tokens : List Token) → (outer_error : TraversalError)
    → (remaining_tokens : List Token) → Type 0
IsWrongShapeAtKey depth input_tokens outer_error remaining_tokens =
    IfErrorIsFault outer_error
    (λ outer_place. IsWrongShape outer_place × SkipsToObjectEnd depth input_tokens remaining_tokens)

abbrev pub IsScopeTypeError : (depth : ℕ) → (input_tokens : List Token) → (outer_error : TraversalError)
    → (remaining_tokens : List Token) → Type 0
IsScopeTypeError depth input_tokens outer_error remaining_tokens =
    IfErrorIsFault outer_error
    (λ outer_place. IsWrongShape outer_place × IsNotScopeStart input_tokens
    × SkipsFromValue depth input_tokens remaining_tokens)

-- A fault of a scope's members, seen from the object around the scope. If there is a further key, that is the fault.
abbrev pub IsPlaceOfScope : json.Members → (inner_place outer_place : Place) → Type 0
IsPlaceOfScope json.no_members inner_place outer_place =
    IsPlaceFromParent (key (codes "$scope")) inner_place outer_place
IsPlaceOfScope (json.member member_key json_value json_members) inner_place outer_place = IsWrongShape outer_place

abbrev pub IsErrorInScope : (depth : ℕ) → (inner_error : TraversalError) → (input_tokens : List Token)
    → (outer_error : TraversalError) → (remaining_tokens : List Token) → Type 0
IsErrorInScope depth inner_error input_tokens outer_error remaining_tokens =
    IfErrorIsFault outer_error
    (λ outer_place. (inner_place : Box Place Global) × (inner_error ≡ failure.Fault inner_place)
    × ((fuel : ℕ) (json_members : json.Members) (tokens_after : List Token)
    → members (value depth) fuel input_tokens ≡ Some (json_members, tokens_after)
    → (remaining_tokens ≡ tokens_after) × IsPlaceOfScope json_members inner_place.value outer_place))

-- There is a further key after a scope.
abbrev pub IsExtraKeyError : (depth : ℕ) → (input_tokens : List Token) → (outer_error : TraversalError)
    → (remaining_tokens : List Token) → Type 0
IsExtraKeyError depth input_tokens outer_error remaining_tokens =
    IfErrorIsFault outer_error
    (λ outer_place. IsWrongShape outer_place × ((fuel : ℕ) (json_members : json.Members) (tokens_after : List Token)
    → members (value depth) fuel input_tokens ≡ Some (json_members, tokens_after) → (remaining_tokens ≡ tokens_after)
    × (json_members ≡ json.no_members → ⊥)))

-- the object has the wrong shape, and from a value in it on the rest was passed over
abbrev pub IsWrongShapeAtValue : (depth : ℕ) → (input_tokens : List Token) → (outer_error : TraversalError)
    → (remaining_tokens : List Token) → Type 0
IsWrongShapeAtValue depth input_tokens outer_error remaining_tokens =
    IfErrorIsFault outer_error
    (λ outer_place. IsWrongShape outer_place × SkipsFromValue depth input_tokens remaining_tokens)

abbrev pub IsNotFault : TraversalError → Type 0
IsNotFault failure.OutOfMemory = ⊤
IsNotFault failure.DuplicateKey = ⊤
IsNotFault failure.GaveUp = ⊤
IsNotFault failure.Syntax = ⊤
IsNotFault (failure.Fault place) = ⊥

-- the fault that a scalar's reading has
abbrev pub IsScalarFault : (read_result : Result Scalar Fault) → (reported_error : TraversalError) → Type 0
IsScalarFault read_result reported_error = IfErrorIsFault reported_error (IsPlaceOfFault (scalar_fault read_result))

module _ (doubles : Doubles) where
  -- the first fault of a document, or of a scope, whose keys are not tested
  abbrev pub first_fault_of_members : (is_document : Bool) → Members → FaultAndPath
  first_fault_of_members true tree_members = fault_in_tree doubles (object tree_members)
  first_fault_of_members false tree_members = first_member_fault doubles tree_members

  abbrev pub LocatesValueError : (reported_error : TraversalError) → (parsed : Option (json.Json × List Token))
      → (remaining_tokens : List Token) → Type 0
  LocatesValueError reported_error parsed remaining_tokens =
      IfErrorIsFault reported_error
      (λ place. (json_value : json.Json) (tokens_after : List Token) (value_tree : Data)
      → parsed ≡ Some (json_value, tokens_after) → HasSortedKeys json_value
      → of_json json_value ≡ Some value_tree → (remaining_tokens ≡ tokens_after)
      × IsPlaceOfFault (fault_in_tree doubles value_tree) place)

  abbrev pub LocatesItemsError : (reported_error : TraversalError) → (parsed : Option (json.Items × List Token))
      → (remaining_tokens : List Token) → Type 0
  LocatesItemsError reported_error parsed remaining_tokens =
      IfErrorIsFault reported_error
      (λ place. (json_items : json.Items) (tokens_after : List Token) (tree_items : Items)
      → parsed ≡ Some (json_items, tokens_after)
      → ItemsHaveAscendingKeys json_items → of_items json_items ≡ Some tree_items → (remaining_tokens ≡ tokens_after)
      × IsPlaceOfFault (first_item_fault doubles 0 tree_items) place)

  abbrev pub LocatesMembersError : (reported_error : TraversalError) → (for_document : Bool)
      → (parsed : Option (json.Members × List Token))
      → (remaining_tokens : List Token) → Type 0
  LocatesMembersError reported_error for_document parsed remaining_tokens =
      IfErrorIsFault reported_error
      (λ place. (json_members : json.Members) (tokens_after : List Token) (tree_members : Members)
      → parsed ≡ Some (json_members, tokens_after)
      → MembersHaveAscendingKeys json_members → member_trees json_members ≡ Some tree_members
      → (for_document ≡ true → FirstKeyIsNotWrapper json_members) → (remaining_tokens ≡ tokens_after)
      × IsPlaceOfFault (first_fault_of_members for_document tree_members) place)

  abbrev pub LocatesObjectError : (reported_error : TraversalError) → (parsed : Option (json.Members × List Token))
      → (remaining_tokens : List Token) → Type 0
  LocatesObjectError reported_error parsed remaining_tokens =
      IfErrorIsFault reported_error
      (λ place. (json_members : json.Members) (tokens_after : List Token) (tree_members : Members)
      → parsed ≡ Some (json_members, tokens_after)
      → MembersHaveAscendingKeys json_members → member_trees json_members ≡ Some tree_members
      → (remaining_tokens ≡ tokens_after) × IsPlaceOfFault (fault_in_tree doubles (object tree_members)) place)

  -- The first fault of what follows code.
  abbrev pub first_fault_of_code : (tree_members : Members) → FaultAndPath
  first_fault_of_code no_members = reports.wrong_shape_here
  first_fault_of_code (member next_key scope_tree no_members) = scope_fault doubles scope_tree
  first_fault_of_code (member next_key scope_tree (member third_key other_tree tree_members)) = reports.wrong_shape_here

  abbrev pub LocatesCodeError : (code_follows_scope : Bool) → (depth : ℕ) → (reported_error : TraversalError)
      → (input_tokens remaining_tokens : List Token)
      → Type 0
  LocatesCodeError code_follows_scope depth reported_error input_tokens remaining_tokens = code_follows_scope ≡ false
      → IfErrorIsFault reported_error (λ outer_place. (fuel : ℕ) (next_key : List ℕ) (json_members : json.Members)
      (tokens_after : List Token) (tree_members : Members)
      → members_step (value depth) (members (value depth) fuel) (Some next_key) input_tokens
      ≡ Some (json_members, tokens_after)
      → MembersHaveAscendingKeys json_members → member_trees json_members ≡ Some tree_members
      → (remaining_tokens ≡ tokens_after) × IsPlaceOfFault (first_fault_of_code tree_members) outer_place)

  abbrev pub LocatesScopeError : (depth : ℕ) → (reported_error : TraversalError)
      → (input_tokens remaining_tokens : List Token) → Type 0
  LocatesScopeError depth reported_error input_tokens remaining_tokens = 0 < depth
      → LocatesMembersError reported_error false (members_after_brace (depth - 1) input_tokens) remaining_tokens

  -- The place is that of the first fault of the text, if the keys of each object ascend.
  abbrev pub LocatesTextError : (reported_error : TraversalError) → (text : List ℕ) → Type 0
  LocatesTextError reported_error text =
      IfErrorIsFault reported_error
      (λ place. (json_value : json.Json) (value_tree : Data) → IsJsonWithinDepth text json_value
      → HasSortedKeys json_value → of_json json_value ≡ Some value_tree
      → IsFirstFaultIn doubles value_tree place)

-- What an error says about the input: what it rules out, and where the error is.
module _ (doubles : Doubles) (WriterMayGiveUp WriterSortsKeys : Type 0) where
  abbrev pub IsValueError : (reported_error : TraversalError) → (parsed : Option (json.Json × List Token))
      → (remaining_tokens : List Token) → Type 0
  IsValueError reported_error parsed remaining_tokens =
      ErrorRulesOutValue doubles WriterMayGiveUp WriterSortsKeys reported_error parsed
      × LocatesValueError doubles reported_error parsed remaining_tokens

  abbrev pub IsItemsError : (reported_error : TraversalError) → (parsed : Option (json.Items × List Token))
      → (remaining_tokens : List Token) → Type 0
  IsItemsError reported_error parsed remaining_tokens =
      ErrorRulesOutItems doubles WriterMayGiveUp WriterSortsKeys reported_error parsed
      × LocatesItemsError doubles reported_error parsed remaining_tokens

  abbrev pub IsObjectError : (reported_error : TraversalError) → (parsed : Option (json.Members × List Token))
      → (remaining_tokens : List Token) → Type 0
  IsObjectError reported_error parsed remaining_tokens =
      ErrorRulesOutObject doubles WriterMayGiveUp WriterSortsKeys reported_error parsed
      × LocatesObjectError doubles reported_error parsed remaining_tokens

  abbrev pub IsMembersError : (reported_error : TraversalError) → (for_document : Bool)
      → (parsed : Option (json.Members × List Token)) → (remaining_tokens : List Token)
      → Type 0
  IsMembersError reported_error for_document parsed remaining_tokens =
      ErrorRulesOutMembers doubles WriterMayGiveUp WriterSortsKeys reported_error for_document parsed
      × LocatesMembersError doubles reported_error for_document parsed remaining_tokens

  abbrev pub IsCodeError : (reported_error : TraversalError) → (code_follows_scope : Bool) → (depth : ℕ)
      → (input_tokens remaining_tokens : List Token) → Type 0
  IsCodeError reported_error code_follows_scope depth input_tokens remaining_tokens =
      ErrorRulesOutCode doubles WriterMayGiveUp WriterSortsKeys reported_error code_follows_scope
      (value depth input_tokens)
      × LocatesCodeError doubles code_follows_scope depth reported_error input_tokens remaining_tokens

  abbrev pub IsScopeError : (reported_error : TraversalError) → (depth : ℕ)
      → (input_tokens remaining_tokens : List Token) → Type 0
  IsScopeError reported_error depth input_tokens remaining_tokens =
      ErrorRulesOutScope doubles WriterMayGiveUp WriterSortsKeys reported_error depth input_tokens
      × LocatesScopeError doubles depth reported_error input_tokens remaining_tokens
