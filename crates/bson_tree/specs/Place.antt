-- Where the first fault of a tree is: the path to it, a segment for each array and object that it is in. What a fault
-- is, and which comes first, is stated by the grammar alone (`MeansIn`), a production a line. The law
-- `places_in_each_mode` joins this with what the function of reading gives.
use Rattle.std.specs.Prelude.{◌≡◌, ℕ, ◌+◌, List, [], ◌∷◌, ◌++◌, map, codes, string_bytes, true, false}
use Rattle.std.specs.Fmt.{decimal}
use Rattle.serde_json.specs.Data.{Data, Num, Items, item, Members, no_members, member}
use Rattle.serde_json.specs.Data as tree
use Rattle.bson_scalar.specs.Faults.{Fault, wrong_shape, wrong_id, IsIdFault}
use Rattle.bson_scalar.specs.Means.{IsOidText}
use Rattle.bson_scalar.specs.TreeParts.{one_key_object, two_key_object}
use Rattle.bson_scalar.specs.Table.{has_wrapper}
use Rattle.bson_scalar.specs.declared.form.Doubles.{Doubles}
use Rattle.bson_scalar.specs.declared.form.Doubles.TheVariants.{Special}
use Rattle.bson_model.specs.Fault.{MeansNothingIn}
use Rattle.bson_model.specs.Means.{MeansIn}
use Rattle.bson_model.specs.Value.{Value}
use Rattle.bson_tree.specs.declared.place.Segment.{Segment}
use Rattle.bson_tree.specs.declared.place.Segment.TheVariants as declared
use Rattle.bson_tree.specs.declared.place.Place.{Place}
use Rattle.bson_tree.specs.declared.place.Reason.{Reason}
use Rattle.bson_tree.specs.declared.place.Reason.TheVariants.{BadObjectId, WrongShape}

-- ---- the path

-- into the value at a key, or into an element of an array, counted from 0
pub data PathSegment : Type 0 where
  key : (key_text : List ℕ) → PathSegment
  element : (element_index : ℕ) → PathSegment

abbrev pub segment_of : Segment → PathSegment
segment_of (declared.Key key_text) = key (string_bytes key_text)
segment_of (declared.Element element_index) = element element_index

-- from the fault outward
abbrev pub path_of : Place → List PathSegment
path_of place = map segment_of place.segments.items

-- ---- its text

-- a key as it is; a place in an array as its number, counted from 0
abbrev pub segment_text : PathSegment → List ℕ
segment_text (key key_text) = key_text
segment_text (element element_index) = decimal element_index

-- the words from the tree inward, with points between
abbrev pub path_text : List PathSegment → List ℕ
path_text [] = []
path_text (segment ∷ []) = segment_text segment
path_text (segment ∷ outer_segment ∷ outer_segments) =
    path_text (outer_segment ∷ outer_segments) ++ codes "." ++ segment_text segment

-- ---- what is wrong with a wrapper of one key

-- the tree is right except for this text, where an object id must be, which is not 24 hexadecimal digits (MongoDB
-- Extended JSON v2: `$oid`, and the `$id` of a `$dbPointer`)
pub data HasInvalidObjectId : (json_tree : Data) → (id_text : List ℕ) → Type 0 where
  oid : (text_bytes : List ℕ) → ((id : List ℕ) → IsOidText text_bytes id → ⊥) → HasInvalidObjectId (one_key_object (codes "$oid") (tree.string text_bytes)) text_bytes
  db_pointer : (namespace text_bytes : List ℕ) → ((id : List ℕ) → IsOidText text_bytes id → ⊥)
      → HasInvalidObjectId
      (one_key_object (codes "$dbPointer")
      (two_key_object (codes "$id") (one_key_object (codes "$oid") (tree.string text_bytes)) (codes "$ref")
      (tree.string namespace)))
      text_bytes

-- the fault is a bad id, or the shape is wrong: the tree means nothing for another cause
abbrev pub IsWrapperFaultIn : Doubles → Data → Fault → Type 0
IsWrapperFaultIn doubles json_tree (wrong_id text_bytes) = HasInvalidObjectId json_tree text_bytes
IsWrapperFaultIn doubles json_tree wrong_shape = MeansNothingIn doubles json_tree
    × ((text_bytes : List ℕ) → HasInvalidObjectId json_tree text_bytes → ⊥)

-- ---- where the fault is

-- an object that has one key, or the two of code with a scope that is an object
pub data HasWrapperKeys : Members → Type 0 where
  single_key : (key_text : List ℕ) (subtree : Data) → HasWrapperKeys (member key_text subtree no_members)
  code_with_scope : (text_bytes : List ℕ) (member_list : Members)
      → HasWrapperKeys
      (member (codes "$code") (tree.string text_bytes) (member (codes "$scope") (tree.object member_list) no_members))

mutual
  -- the first fault of the tree, and the path from it outward
  pub data FaultAtIn (doubles : Doubles) : Fault → Data → List PathSegment → Type 0 where
    -- a number that is no i64; where finite doubles are read, one whose nearest double is not finite
    number : (json_number : Num) → MeansNothingIn doubles (tree.number json_number)
        → FaultAtIn doubles wrong_shape (tree.number json_number) []
    array : {tree_fault : Fault} {path : List PathSegment} (item_list : Items)
        → ItemFaultAtIn doubles tree_fault 0 item_list path → FaultAtIn doubles tree_fault (tree.array item_list) path
    document : {tree_fault : Fault} {path : List PathSegment} (member_list : Members)
        → has_wrapper member_list ≡ false → MemberFaultAtIn doubles tree_fault member_list path
        → FaultAtIn doubles tree_fault (tree.object member_list) path
    -- the value at the key of a wrapper
    wrapper : {tree_fault : Fault} (key_text : List ℕ) (subtree : Data)
        → has_wrapper (member key_text subtree no_members) ≡ true
        → IsWrapperFaultIn doubles (one_key_object key_text subtree) tree_fault
        → FaultAtIn doubles tree_fault (one_key_object key_text subtree) (key key_text ∷ [])
    scope : {tree_fault : Fault} {path : List PathSegment} (text_bytes : List ℕ) (member_list : Members)
        → MemberFaultAtIn doubles tree_fault member_list path
        → FaultAtIn doubles tree_fault
        (two_key_object (codes "$code") (tree.string text_bytes) (codes "$scope") (tree.object member_list)) (path
        ++ key (codes "$scope") ∷ [])
    -- an object with a wrapper key that has the shape of no wrapper
    shape : (member_list : Members) → has_wrapper member_list ≡ true → (HasWrapperKeys member_list → ⊥)
        → MeansNothingIn doubles (tree.object member_list)
        → FaultAtIn doubles wrong_shape (tree.object member_list) []

  -- of elements, the first of which has this place in its array
  pub data ItemFaultAtIn (doubles : Doubles) : Fault → (first_index : ℕ) → Items → (path : List PathSegment)
      → Type 0 where
    at_this_element : {tree_fault : Fault} {path : List PathSegment} (element_index : ℕ) (subtree : Data)
        (item_list : Items) → FaultAtIn doubles tree_fault subtree path
        → ItemFaultAtIn doubles tree_fault element_index (item subtree item_list) (path ++ element element_index ∷ [])
    -- the element before it means something
    after_valid_element : {tree_fault : Fault} {path : List PathSegment} (element_index : ℕ) (subtree : Data)
        (bson_value : Value) (item_list : Items) → MeansIn doubles subtree bson_value
        → ItemFaultAtIn doubles tree_fault (element_index + 1) item_list path
        → ItemFaultAtIn doubles tree_fault element_index (item subtree item_list) path

  -- of the values of a map, by ascending key
  pub data MemberFaultAtIn (doubles : Doubles) : Fault → Members → List PathSegment → Type 0 where
    at_key : {tree_fault : Fault} {path : List PathSegment} (key_text : List ℕ) (subtree : Data) (member_list : Members)
        → FaultAtIn doubles tree_fault subtree path
        → MemberFaultAtIn doubles tree_fault (member key_text subtree member_list) (path ++ key key_text ∷ [])
    -- the value at the key before it means something
    after_valid_member : {tree_fault : Fault} {path : List PathSegment} (key_text : List ℕ) (subtree : Data)
        (bson_value : Value) (member_list : Members) → MeansIn doubles subtree bson_value
        → MemberFaultAtIn doubles tree_fault member_list path
        → MemberFaultAtIn doubles tree_fault (member key_text subtree member_list) path

-- ---- what is found

-- the reason is that of the fault
abbrev pub IsReasonOfFault : Fault → Reason → Type 0
IsReasonOfFault tree_fault (WrongShape message) = tree_fault ≡ wrong_shape
IsReasonOfFault tree_fault (BadObjectId id_error) = (text_bytes : List ℕ) × (tree_fault ≡ wrong_id text_bytes)
    × IsIdFault text_bytes id_error

-- a fault is at the place, for its reason
pub record IsFaultPlace (fault_at : Fault → List PathSegment → Type 0) (place : Place) : Type 0 where
  pub fault : Fault
  pub path : fault_at fault (path_of place)
  pub reason : IsReasonOfFault fault place.reason

-- the tree means nothing, and its first fault is at the place, for its reason
pub record IsFirstFaultIn (doubles : Doubles) (json_tree : Data) (place : Place) : Type 0 where
  pub nothing : MeansNothingIn doubles json_tree
  pub fault : Fault
  pub path : FaultAtIn doubles fault json_tree (path_of place)
  pub reason : IsReasonOfFault fault place.reason

-- the tree has a value
abbrev pub HasValueIn : Doubles → Data → Type 0
HasValueIn doubles json_tree = (bson_value : Value) × MeansIn doubles json_tree bson_value

-- ---- where no finite doubles are read

abbrev pub FaultAt : Fault → Data → List PathSegment → Type 0
FaultAt = FaultAtIn Special
