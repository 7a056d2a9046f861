-- How the lines of two outputs differ.
use Rattle.std.specs.Prelude.{◌≡◌, ◌≢◌, ◌⊎◌, ◌+◌, ◌<◌, ◌++◌, ◌==◌, ℕ, Bool, true, false, min, List, [], Option, None, Some, codes}
use Rattle.std.specs.Prelude.{get_or, length, map, string_bytes, take, String, if◌then◌else◌}
use Rattle.std.specs.declared.alloc.Global.{Global}
use Rattle.std.specs.Fmt.{decimal}
use Rattle.std.specs.List.Sorted.{IsPermutation}
use Rattle.bson_program.specs.Messages.{shown_name}
use Rattle.bson_program.specs.RunFailures.{HappensAt, HappensAtInput}
use Rattle.bson_program.specs.declared.compare_outputs.Difference.{Difference}
use Rattle.bson_program.specs.declared.compare_outputs.Difference.TheVariants.{AtValue, UnequalCounts, EqualCounts}
use Rattle.bson_program.specs.declared.invocation.Invocation.{Invocation}
use Rattle.bson_program.specs.declared.run.RunFailure.{RunFailure}

-- the lines at this place are the first that differ
pub record FirstDifferenceAt (line_index : ℕ) (first_lines second_lines : List (List ℕ)) : Type 0 where
  pub in_first : line_index < length first_lines
  pub in_second : line_index < length second_lines
  pub same_before : take line_index first_lines ≡ take line_index second_lines
  pub differ : get_or first_lines line_index [] ≢ get_or second_lines line_index []

-- one list of lines is the beginning of the other
pub record IsShorterOutput (first_lines second_lines : List (List ℕ)) (first_count second_count : ℕ) : Type 0 where
  pub in_first : first_count ≡ length first_lines
  pub in_second : second_count ≡ length second_lines
  pub differ : first_count ≢ second_count
  pub same_before : take (min first_count second_count) first_lines ≡ take (min first_count second_count) second_lines

-- the first difference
abbrev pub IsDifference : (first_lines second_lines : List (List ℕ)) → Difference → Type 0
IsDifference first_lines second_lines (AtValue value_number) = (line_index : ℕ) × (value_number ≡ line_index + 1)
    × FirstDifferenceAt line_index first_lines second_lines
IsDifference first_lines second_lines (UnequalCounts first_count second_count) =
    IsShorterOutput first_lines second_lines first_count second_count
IsDifference first_lines second_lines (EqualCounts count) = ⊥

-- the difference between lines whose order does not matter
abbrev pub IsUnorderedDifference : (first_lines second_lines : List (List ℕ)) → Difference → Type 0
IsUnorderedDifference first_lines second_lines (AtValue value_number) = ⊥
IsUnorderedDifference first_lines second_lines (UnequalCounts first_count second_count) =
    (first_count ≡ length first_lines) × (second_count ≡ length second_lines) × (first_count ≢ second_count)
IsUnorderedDifference first_lines second_lines (EqualCounts count) =
    (count ≡ length first_lines) × (count ≡ length second_lines) × (IsPermutation first_lines second_lines → ⊥)

-- the result of a comparison
abbrev pub IsComparison : (is_unordered : Bool) → (first_lines second_lines : List (List ℕ)) → Option Difference
    → Type 0
IsComparison false first_lines second_lines None = first_lines ≡ second_lines
IsComparison true first_lines second_lines None = IsPermutation first_lines second_lines
IsComparison false first_lines second_lines (Some difference) = IsDifference first_lines second_lines difference
IsComparison true first_lines second_lines (Some difference) = IsUnorderedDifference first_lines second_lines difference

-- ---- messages

-- a number of values for a message
abbrev pub value_count_text : (count : ℕ) → List ℕ
value_count_text count = if count == 1 then codes "1 value" else decimal count ++ codes " values"

-- the line that says how two files differ, by the names that messages show
abbrev pub difference_message : (first_name second_name : List ℕ) → Difference → List ℕ
difference_message first_name second_name (AtValue value_number) =
    codes "bson: " ++ first_name ++ codes " and " ++ second_name ++ codes " differ at value " ++ decimal value_number
difference_message first_name second_name (UnequalCounts first_count second_count) =
    codes "bson: " ++ first_name ++ codes " has " ++ value_count_text first_count ++ codes ", and " ++ second_name
    ++ codes " has " ++ decimal second_count
difference_message first_name second_name (EqualCounts count) =
    codes "bson: " ++ first_name ++ codes " and " ++ second_name ++ codes " differ: each has " ++ value_count_text count

-- the name of the file at this index, or that of standard input if there is none
abbrev pub input_name_at : (inputs : List (String Global)) → (input_index : ℕ) → List ℕ
input_name_at inputs input_index = get_or (map (λ input. string_bytes input) inputs) input_index (codes "-")

-- the line for the first two inputs
abbrev pub difference_of_inputs : (inputs : List (String Global)) → Difference → List ℕ
difference_of_inputs inputs difference =
    difference_message (shown_name (input_name_at inputs 0) (codes "input"))
    (shown_name (input_name_at inputs 1) (codes "input")) difference

-- ---- failures

-- the failure names the first or the second input, or an output
abbrev pub HappensAtFirstTwo : Invocation → RunFailure → Type 0
HappensAtFirstTwo invocation stop =
    HappensAt invocation (input_name_at invocation.inputs.items 0) stop
    ⊎ HappensAt invocation (input_name_at invocation.inputs.items 1) stop

-- why a comparison stops
abbrev pub IsComparisonFailure : Invocation → RunFailure → Type 0
IsComparisonFailure invocation stop = HappensAtFirstTwo invocation stop ⊎ HappensAtInput invocation stop
