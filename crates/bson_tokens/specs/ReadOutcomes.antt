-- What was read of the parts of a text. For private clauses.
use Rattle.std.specs.Prelude.{◌≡◌, ◌≤◌, ℕ, List, length, Option, Some, None}
use Rattle.json.specs.Token.{Token}
use Rattle.json.specs.Json.{members, value}
use Rattle.serde_json.specs.Data.{Members}
use Rattle.serde_json.specs.Read.{of_members, converted}
use Rattle.json.specs.declared.error.Error.{Error}
use Rattle.json.specs.declared.error.Error.TheVariants.{Invalid}

-- no tree was read, unless memory ran out
abbrev pub NothingReadIfInvalid : {X : Type 0} → (tree : Option X) → Error → Type 0
NothingReadIfInvalid tree read_error = read_error ≡ Invalid → tree ≡ None

-- the members are read to the end of the object, added to those before them
abbrev pub MembersAreReadInto : (depth : ℕ) → (members_before : Members) → (input_tokens : List Token)
    → (members_after : Members) → (remaining_tokens : List Token) → Type 0
MembersAreReadInto depth members_before input_tokens members_after remaining_tokens = (fuel : ℕ)
    → length input_tokens ≤ fuel
    → converted (λ json_members. of_members json_members members_before) (members (value depth) fuel input_tokens)
    ≡ Some (members_after, remaining_tokens)

-- they are not read, since the text is not valid
abbrev pub ReadsNoMembers : (depth : ℕ) → (input_tokens : List Token) → Type 0
ReadsNoMembers depth input_tokens = (members_before : Members) (fuel : ℕ)
    → converted (λ json_members. of_members json_members members_before) (members (value depth) fuel input_tokens)
    ≡ None
