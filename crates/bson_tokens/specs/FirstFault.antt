-- The first error of a tree and the path to it, as a function. For private clauses.
use Rattle.std.specs.Prelude.{ℕ, ◌+◌, List, [], ◌∷◌, ◌++◌, codes, ◌&&◌, if◌then◌else◌, Option, Some, None}
use Rattle.std.specs.Prelude.{Result, Ok, Err}
use Rattle.std.specs.Str.{bytes_eq}
use Rattle.serde_json.specs.Data.{Data, Items, no_items, item, Members, no_members, member}
use Rattle.serde_json.specs.Data as tree
use Rattle.bson_scalar.specs.Faults.{Fault, wrong_shape}
use Rattle.bson_scalar.specs.Reading.{number_read_in, optional_wrapper_read_in}
use Rattle.bson_scalar.specs.Scalar.{Scalar}
use Rattle.bson_scalar.specs.Table.{wrapper_of, has_wrapper}
use Rattle.bson_scalar.specs.declared.form.Doubles.{Doubles}
use Rattle.bson_tree.specs.Place.{PathSegment, key, element}

-- an error and the path from it outward, or none
abbrev pub FaultAndPath : Type 0
FaultAndPath = Option (Fault × List PathSegment)

abbrev pub add_segment : PathSegment → FaultAndPath → FaultAndPath
add_segment segment None = None
add_segment segment (Some found_fault) = Some (found_fault.0, found_fault.1 ++ segment ∷ [])

abbrev pub or_fault : FaultAndPath → (later_fault : FaultAndPath) → FaultAndPath
or_fault None later_fault = later_fault
or_fault (Some found_fault) later_fault = Some found_fault

abbrev pub wrong_shape_here : FaultAndPath
wrong_shape_here = Some (wrong_shape, [])

abbrev pub scalar_fault : Result Scalar Fault → FaultAndPath
scalar_fault (Ok scalar_value) = None
scalar_fault (Err found_fault) = Some (found_fault, [])

abbrev pub code_fault : Data → FaultAndPath → FaultAndPath
code_fault (tree.string string_bytes) scope = scope
code_fault _ scope = wrong_shape_here

abbrev mutual
  pub fault_in_tree : Doubles → Data → FaultAndPath
  fault_in_tree doubles tree.null = None
  fault_in_tree doubles (tree.boolean truth) = None
  fault_in_tree doubles (tree.number number_value) = scalar_fault (number_read_in doubles number_value)
  fault_in_tree doubles (tree.string string_bytes) = None
  fault_in_tree doubles (tree.array tree_items) = first_item_fault doubles 0 tree_items
  fault_in_tree doubles (tree.object tree_members) =
      if has_wrapper tree_members then wrapper_fault doubles tree_members else first_member_fault doubles tree_members

  -- among elements, the first of which has this index in its array
  pub first_item_fault : Doubles → (item_index : ℕ) → Items → FaultAndPath
  first_item_fault doubles item_index no_items = None
  first_item_fault doubles item_index (item tree_value tree_items) =
      or_fault (add_segment (element item_index) (fault_in_tree doubles tree_value))
      (first_item_fault doubles (item_index + 1) tree_items)

  -- among the values of an object, in ascending key order
  pub first_member_fault : Doubles → Members → FaultAndPath
  first_member_fault doubles no_members = None
  first_member_fault doubles (member member_key tree_value tree_members) =
      or_fault (add_segment (key member_key) (fault_in_tree doubles tree_value))
      (first_member_fault doubles tree_members)

  -- in an object with a wrapper key
  pub wrapper_fault : Doubles → Members → FaultAndPath
  wrapper_fault doubles no_members = wrong_shape_here
  wrapper_fault doubles (member member_key tree_value no_members) =
      add_segment (key member_key) (scalar_fault (optional_wrapper_read_in doubles (wrapper_of member_key) tree_value))
  wrapper_fault doubles (member member_key tree_value (member second_key second_value no_members)) =
      if bytes_eq member_key (codes "$code") && bytes_eq second_key (codes "$scope")
      then code_fault tree_value (scope_fault doubles second_value) else wrong_shape_here
  wrapper_fault doubles
      (member member_key tree_value
      (member second_key second_value (member third_key third_value tree_members))) = wrong_shape_here

  -- in the scope of code
  pub scope_fault : Doubles → Data → FaultAndPath
  scope_fault doubles tree.null = None
  scope_fault doubles (tree.boolean truth) = wrong_shape_here
  scope_fault doubles (tree.number number_value) = wrong_shape_here
  scope_fault doubles (tree.string string_bytes) = wrong_shape_here
  scope_fault doubles (tree.array tree_items) = wrong_shape_here
  scope_fault doubles (tree.object tree_members) =
      add_segment (key (codes "$scope")) (first_member_fault doubles tree_members)
