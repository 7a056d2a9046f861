-- How a value starts. For private clauses.
use Rattle.std.specs.Prelude.{◌≡◌, ◌<◌, ◌-◌, ℕ, List, length, Some}
use Rattle.json.specs.Token.{Token}
use Rattle.json.specs.Json as json
use Rattle.json.specs.Json.{items, members, value, parse_map}
use Rattle.serde_json.specs.Data.{Data, null, boolean, number, string}
use Rattle.serde_json.specs.Read.{number_of}
use Rattle.serde_json.specs.View.{number_view}
use Rattle.bson_tokens.specs.declared.value_start.Primitive.{Primitive}
use Rattle.bson_tokens.specs.declared.value_start.Primitive.TheVariants.{Null, Bool, Number, String}
use Rattle.bson_tokens.specs.declared.value_start.ValueStart.{ValueStart}
use Rattle.bson_tokens.specs.declared.value_start.ValueStart.TheVariants as start

abbrev pub primitive_tree : Primitive → Data
primitive_tree Null = null
primitive_tree (Bool truth) = boolean truth
primitive_tree (Number number_value) = number (number_view number_value)
primitive_tree (String scalar_text) = string scalar_text.now

-- the primitive is of this JSON
abbrev pub IsPrimitive : Primitive → json.Json → Type 0
IsPrimitive Null json_value = json_value ≡ json.null
IsPrimitive (Bool truth) json_value = json_value ≡ json.boolean truth
IsPrimitive (Number number_value) json_value = (scalar_text : List ℕ) × (json_value ≡ json.number scalar_text)
    × (number_of scalar_text ≡ Some (number_view number_value))
IsPrimitive (String scalar_text) json_value = json_value ≡ json.string scalar_text.now

-- a value starts in this way, and these tokens remain: after the value, or after its bracket or brace
abbrev pub StartsValue : (depth : ℕ) → (input_tokens : List Token) → ValueStart → (remaining_tokens : List Token)
    → Type 0
StartsValue depth input_tokens (start.Primitive primitive_value) remaining_tokens = (json_value : json.Json)
    × (value depth input_tokens ≡ Some (json_value, remaining_tokens)) × IsPrimitive primitive_value json_value
StartsValue depth input_tokens start.Array remaining_tokens = (0 < depth)
    × (value depth input_tokens
    ≡ parse_map json.array (items (value (depth - 1)) (length remaining_tokens) remaining_tokens))
StartsValue depth input_tokens start.Object remaining_tokens = (0 < depth)
    × (value depth input_tokens
    ≡ parse_map json.object (members (value (depth - 1)) (length remaining_tokens) remaining_tokens))
