-- The room that a text needs, and the values whose text is made in no other memory.
use Rattle.std.specs.Prelude.{◌≡◌, ◌+◌, ◌<◌, ◌≤◌, ℕ, List, length, Bool, not, true, false, Result, MatchResult, Ok, Err}
use Rattle.json.specs.Print.{token_text}
use Rattle.json.specs.Token.{key}
use Rattle.json.specs.Tree.{room}
use Rattle.serde_json.specs.Data.{Data}
use Rattle.bson_scalar.specs.Scalar.{Scalar, regex, binary, date, db_pointer, decimal, timestamp}
use Rattle.bson_scalar.specs.Tokens.{tokens_of, code_tokens}
use Rattle.bson_scalar.specs.Written.{WriteFault, writes_scalar_in}
use Rattle.bson_scalar.specs.declared.form.Doubles.{Doubles}
use Rattle.bson_scalar.specs.declared.form.Form.{Form}
use Rattle.bson_scalar.specs.Forms.{is_mongodb, is_relaxed}
use Rattle.bson_scalar.specs.declared.write_error.WriteError.{WriteError}
use Rattle.bson_scalar.specs.declared.write_error.WriteError.TheVariants.{FiniteDouble, OutOfMemory}
use Rattle.bson_model.specs.Value.{Value, scalar, code_scope, array, document, Values, no_values, value, Pairs}
use Rattle.bson_model.specs.Value.{no_pairs, pair}

-- A scalar is allocation-free if its text is made where it is written. The text of any other is first made in memory
-- of its own: base64, sorted options, the digits of a decimal, in a relaxed form a date, and in the layout of MongoDB's
-- tools a timestamp and a pointer.
abbrev pub is_allocation_free : Form → Scalar → Bool
is_allocation_free form (regex pattern options) = false
is_allocation_free form (binary subtype bytes) = false
is_allocation_free form (decimal bytes) = false
is_allocation_free form (date millis) = not (is_relaxed form)
is_allocation_free form (timestamp seconds increment) = not (is_mongodb form)
is_allocation_free form (db_pointer namespace id) = not (is_mongodb form)
is_allocation_free form scalar_value = true

-- every scalar in the value is allocation-free
abbrev mutual
  pub IsAllocationFree : Form → Value → Type 0
  IsAllocationFree form (scalar scalar_value) = is_allocation_free form scalar_value ≡ true
  IsAllocationFree form (code_scope code pairs) = PairsAreAllocationFree form pairs
  IsAllocationFree form (array items) = ValuesAreAllocationFree form items
  IsAllocationFree form (document pairs) = PairsAreAllocationFree form pairs

  pub ValuesAreAllocationFree : Form → Values → Type 0
  ValuesAreAllocationFree form no_values = Unit {0}
  ValuesAreAllocationFree form (value bson_value items) = IsAllocationFree form bson_value
      × ValuesAreAllocationFree form items

  pub PairsAreAllocationFree : Form → Pairs → Type 0
  PairsAreAllocationFree form no_pairs = Unit {0}
  PairsAreAllocationFree form (pair key_bytes bson_value pairs) = IsAllocationFree form bson_value
      × PairsAreAllocationFree form pairs

-- ---- for private clauses

-- the capacity that a tree's tokens need, each with a comma
abbrev pub tree_capacity : Data → ℕ
tree_capacity json_tree = room (tokens_of json_tree)

abbrev pub written_tree_capacity : Result Data WriteFault → ℕ
written_tree_capacity (Ok json_tree) = tree_capacity json_tree
written_tree_capacity (Err write_error) = 0

abbrev pub key_capacity : (key_bytes : List ℕ) → ℕ
key_capacity key_bytes = length (token_text (key key_bytes)) + 1

-- the same of a value, whatever the order of its keys
abbrev mutual
  pub value_capacity : Doubles → Form → Value → ℕ
  value_capacity doubles form (scalar scalar_value) = written_tree_capacity (writes_scalar_in doubles form scalar_value)
  value_capacity doubles form (code_scope code pairs) =
      room (code_tokens code) + (2 + pairs_capacity doubles form pairs) + 2
  value_capacity doubles form (array items) = 2 + values_capacity doubles form items
  value_capacity doubles form (document pairs) = 2 + pairs_capacity doubles form pairs

  -- with the closing bracket
  pub values_capacity : Doubles → Form → Values → ℕ
  values_capacity doubles form no_values = 2
  values_capacity doubles form (value bson_value items) =
      value_capacity doubles form bson_value + values_capacity doubles form items

  pub pairs_capacity : Doubles → Form → Pairs → ℕ
  pairs_capacity doubles form no_pairs = 2
  pairs_capacity doubles form (pair key_bytes bson_value pairs) =
      key_capacity key_bytes + value_capacity doubles form bson_value + pairs_capacity doubles form pairs

-- a write uses at most the needed part of the capacity, and memory runs out only if there was less
abbrev pub StaysWithinCapacity : {E : Type 0} → (write_result : Result (Unit {0}) E)
    → (old_spare new_spare needed_capacity : ℕ) → Type 0
StaysWithinCapacity write_result old_spare new_spare needed_capacity =
    MatchResult write_result (λ _. old_spare ≤ new_spare + needed_capacity) (λ _. old_spare < needed_capacity)

abbrev pub StaysWithinCapacityOrStops : (write_result : Result (Unit {0}) WriteError)
    → (old_spare new_spare needed_capacity : ℕ) → Type 0
StaysWithinCapacityOrStops (Ok done) old_spare new_spare needed_capacity = old_spare ≤ new_spare + needed_capacity
StaysWithinCapacityOrStops (Err OutOfMemory) old_spare new_spare needed_capacity = old_spare < needed_capacity
StaysWithinCapacityOrStops (Err FiniteDouble) old_spare new_spare needed_capacity = Unit {0}
