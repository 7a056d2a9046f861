-- What is built from a tree, one part after another.
use Rattle.std.specs.Prelude.{◌≡◌, ℕ, List, Result, Ok, Err}
use Rattle.bson_scalar.specs.Faults.{Fault}
use Rattle.bson_model.specs.Value.{Value, Values, no_values, value, Pairs, no_pairs, pair}
use Rattle.bson_tree.specs.Place.{PathSegment, IsFaultPlace}
use Rattle.bson_tree.specs.declared.place.Place.{Place}

-- the elements, and one more at the end
abbrev pub push_value : Values → Value → Values
push_value no_values bson_value = value bson_value no_values
push_value (value other_value value_list) bson_value = value other_value (push_value value_list bson_value)

-- the pairs, and one more at the end
abbrev pub push_pair : Pairs → (key_text : List ℕ) → Value → Pairs
push_pair no_pairs key_text bson_value = pair key_text bson_value no_pairs
push_pair (pair other_key other_value pair_list) key_text bson_value =
    pair other_key other_value (push_pair pair_list key_text bson_value)

-- what was built represents what is read; or a fault is at the place, for its reason
abbrev pub Builds : {Output Meaning : Type 0} → (represents : Output → Meaning → Type 0)
    → (read_result : Result Meaning Fault) → (fault_at : Fault → List PathSegment → Type 0)
    → Result Output Place → Type 0
Builds {Output} {Meaning} represents read_result fault_at (Ok built_value) =
    (denoted_value : Meaning) × (read_result ≡ Ok denoted_value)
    × represents built_value denoted_value
Builds represents read_result fault_at (Err place) = IsFaultPlace fault_at place
