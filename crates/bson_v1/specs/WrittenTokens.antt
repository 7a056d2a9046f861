-- The tokens that are written for what was read. For private clauses.
use Rattle.std.specs.Prelude.{◌≡◌, ◌++◌, ℕ, List, Option, Some}
use Rattle.json.specs.Json.{Json, object, Items, Members, member, value}
use Rattle.json.specs.Token.{Token}
use Rattle.json.specs.Tree.{json_tokens, items_tokens, members_tokens}
use Rattle.bson_tokens.specs.NormalizerStates.{object_rest}
use Rattle.bson_v1.specs.Upgraded.{upgraded, upgraded_items, upgraded_members}

-- the tokens of what each denotes
abbrev pub upgraded_value_tokens : Json → List Token
upgraded_value_tokens json_value = json_tokens (upgraded json_value)

abbrev pub upgraded_items_tokens : Items → List Token
upgraded_items_tokens json_items = items_tokens (upgraded_items json_items)

abbrev pub upgraded_members_tokens : Members → List Token
upgraded_members_tokens json_members = members_tokens (upgraded_members json_members)

abbrev pub upgraded_object_tokens : Members → List Token
upgraded_object_tokens json_members = upgraded_value_tokens (object json_members)

-- something was read, after which these tokens are left; the tokens of what it denotes are appended to the old ones
abbrev pub WritesTokens : {A : Type 0} → (tokens_of : A → List Token) → (read_result : Option (A × List Token))
    → (remaining_tokens : List Token) → (tokens_before : List Token)
    → (tokens_after : List Token)
    → Type 0
WritesTokens {A} tokens_of read_result remaining_tokens tokens_before tokens_after = (value_read : A)
    × (read_result ≡ Some (value_read, remaining_tokens)) × (tokens_after ≡ tokens_before ++ tokens_of value_read)

-- the value at a key and the members after it were read, and their tokens are appended
abbrev pub WritesMembers : (depth : ℕ) → (member_key : List ℕ)
    → (input_tokens remaining_tokens tokens_before tokens_after : List Token) → Type 0
WritesMembers depth member_key input_tokens remaining_tokens tokens_before tokens_after = (json_value : Json)
    × (json_members : Members) × (tokens_after_value : List Token)
    × (value depth input_tokens ≡ Some (json_value, tokens_after_value))
    × (object_rest depth tokens_after_value ≡ Some (json_members, remaining_tokens))
    × (tokens_after ≡ tokens_before ++ upgraded_members_tokens (member member_key json_value json_members))
