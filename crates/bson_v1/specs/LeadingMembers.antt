-- The members with which an object begins, and what is written for it. For private clauses.
use Rattle.std.specs.Prelude.{◌≡◌, ◌≢◌, ◌++◌, ◌&&◌, ℕ, Bool, true, false, List, [], ◌∷◌, Option, Some, None, codes}
use Rattle.std.specs.Prelude.{if◌then◌else◌}
use Rattle.std.specs.Borrow.{Bor}
use Rattle.std.specs.Str.{bytes_eq}
use Rattle.json.specs.Json.{Json, object, string, Members, no_members, member, parse_map, read_key, value}
use Rattle.json.specs.Print.{IsPrintable}
use Rattle.json.specs.Reads.{token_of}
use Rattle.json.specs.Token.{Token}
use Rattle.json.specs.Token as token
use Rattle.json.specs.Tree.{json_tokens, members_tokens}
use Rattle.json.specs.declared.error.Error.{Error}
use Rattle.json.specs.declared.error.Error.TheVariants.{Invalid}
use Rattle.json.specs.declared.token.Token as declared_token
use Rattle.json.specs.declared.token.Token.TheVariants.{BeginObject, String, Bad}
use Rattle.bson_tokens.specs.NormalizerStates.{object_rest}
use Rattle.bson_v1.specs.Upgraded.{is_code, is_scope, upgraded, upgraded_members, upgraded_object, upgraded_scope}
use Rattle.bson_v1.specs.declared.object_start.ObjectStart.{ObjectStart}
use Rattle.bson_v1.specs.declared.object_start.ObjectStart.TheVariants.{Complete, Incomplete}
use Rattle.bson_v1.specs.declared.object_start.LeadingStrings.{LeadingStrings}
use Rattle.bson_v1.specs.declared.object_start.LeadingStrings.TheVariants.{Empty, One, Two}

-- ---- the strings with which an object begins

-- the members, and others after them
abbrev pub with_leading_members : LeadingStrings → (json_members : Members) → Members
with_leading_members Empty json_members = json_members
with_leading_members (One key text) json_members = member key.now (string text.now) json_members
with_leading_members (Two key text second_key second_text) json_members =
    member key.now (string text.now) (member second_key.now (string second_text.now) json_members)

-- their tokens, and others after them
abbrev pub leading_tokens : LeadingStrings → (input_tokens : List Token) → List Token
leading_tokens Empty input_tokens = input_tokens
leading_tokens (One key text) input_tokens = token.key key.now ∷ token.string text.now ∷ input_tokens
leading_tokens (Two key text second_key second_text) input_tokens =
    token.key key.now ∷ token.string text.now ∷ token.key second_key.now ∷ token.string second_text.now ∷ input_tokens

abbrev pub AreTwoStrings : LeadingStrings → Type 0
AreTwoStrings (Two key text second_key second_text) = Unit {0}
AreTwoStrings leading = ⊥

-- the token is not a string
abbrev pub IsNotString : (value_token : declared_token.Token) → Type 0
IsNotString value_token = (text : Bor (List ℕ)) → value_token ≡ String text → ⊥

-- a value that begins with the token, after the strings, shows that the object has no shape of v1
abbrev pub HasNoV1Shape : LeadingStrings → (first_token : declared_token.Token) → Type 0
HasNoV1Shape (Two key text second_key second_text) first_token = Unit {0}
HasNoV1Shape leading first_token = IsNotString first_token

-- the end of the object was read, or a key and the first token of its value
abbrev pub IsNextMember : Option (Bor (List ℕ) × declared_token.Token) → (tokens_before tokens_after : List Token)
    → Type 0
IsNextMember None tokens_before tokens_after = read_key tokens_before ≡ Some (None, tokens_after)
IsNextMember (Some next_member) tokens_before tokens_after =
    (read_key tokens_before ≡ Some (Some (next_member.0).now, token_of next_member.1 ∷ tokens_after))
    × (next_member.1 ≢ Bad → IsPrintable (token_of next_member.1))

-- the object is read up to its end, or up to the first token of a value
abbrev pub IsObjectStart : ObjectStart → (tokens_before tokens_after : List Token) → Type 0
IsObjectStart (Complete leading) tokens_before tokens_after = (depth : ℕ)
    → object_rest depth tokens_before ≡ Some (with_leading_members leading no_members, tokens_after)
IsObjectStart (Incomplete leading key first_token) tokens_before tokens_after = HasNoV1Shape leading first_token
    × (first_token ≢ Bad → IsPrintable (token_of first_token))
    × ((depth : ℕ) → object_rest depth tokens_before
    ≡ parse_map (with_leading_members leading)
    (object_rest depth (token.key key.now ∷ token_of first_token ∷ tokens_after)))

-- the tokens after the strings are not those of an object
abbrev pub StartsNoObject : LeadingStrings → (input_tokens : List Token) → Error → Type 0
StartsNoObject leading input_tokens read_error = read_error ≡ Invalid → (depth : ℕ)
    → object_rest depth (leading_tokens leading input_tokens) ≡ None

-- ---- scopes

-- whether an object at the key may be a scope, and whether code comes before it
abbrev pub code_before_scope : LeadingStrings → Option Bool
code_before_scope Empty = Some false
code_before_scope (One key text) = if bytes_eq key.now (codes "$code") then Some true else None
code_before_scope (Two key text second_key second_text) = None

abbrev pub scope_candidate : LeadingStrings → (key : List ℕ) → (first_token : declared_token.Token) → Option Bool
scope_candidate leading key BeginObject = if is_scope key then code_before_scope leading else None
scope_candidate leading key first_token = None

-- the member whose value begins with the token is code
abbrev pub starts_code_member : (key : List ℕ) → (first_token : declared_token.Token) → Bool
starts_code_member key (String text) = bytes_eq key (codes "$code")
starts_code_member key first_token = false

abbrev pub starts_with_code : Members → Bool
starts_with_code no_members = false
starts_with_code (member key json_value json_members) = is_code key json_value

-- what is written of an object: a scope, or a value
abbrev pub scope_or_value : (is_scope_member : Bool) → (json_members : Members) → Json
scope_or_value true json_members = object (upgraded_object json_members)
scope_or_value false json_members = upgraded (object json_members)

-- what is written of the object at `$scope`, with code before it or not, before these members
abbrev pub upgraded_scope_before : (after_code : Bool) → (scope json_members : Members) → Json
upgraded_scope_before true scope json_members = object (upgraded_object scope)
upgraded_scope_before false scope json_members = scope_or_value (starts_with_code json_members) scope

-- ---- what was written

-- of the member and those after it, in an object that begins with the strings
abbrev pub upgraded_later_members : LeadingStrings → (key : List ℕ) → (json_value : Json) → (json_members : Members)
    → Members
upgraded_later_members Empty key json_value json_members = upgraded_object (member key json_value json_members)
upgraded_later_members (One first_key text) key json_value json_members =
    if is_code first_key.now (string text.now) && is_scope key
    then member key (upgraded_scope json_value) (upgraded_members json_members)
    else member key (upgraded json_value) (upgraded_members json_members)
upgraded_later_members (Two first_key text second_key second_text) key json_value json_members =
    member key (upgraded json_value) (upgraded_members json_members)

-- the member whose value begins these tokens, and those after it
abbrev pub WritesRemainingMembers : LeadingStrings → (depth : ℕ) → (key : List ℕ)
    → (input_tokens remaining_tokens written_before written_after : List Token) → Type 0
WritesRemainingMembers leading depth key input_tokens remaining_tokens written_before written_after =
    (json_value : Json) × (json_members : Members) × (tokens_after_value : List Token)
    × (value depth input_tokens ≡ Some (json_value, tokens_after_value))
    × (object_rest depth tokens_after_value ≡ Some (json_members, remaining_tokens))
    × (written_after ≡ written_before ++ members_tokens (upgraded_later_members leading key json_value json_members))

-- the object at `$scope` whose members begin these tokens, and the members after it
abbrev pub WritesScope : (after_code : Bool) → (depth : ℕ) → (key : List ℕ)
    → (input_tokens remaining_tokens written_before written_after : List Token) → Type 0
WritesScope after_code depth key input_tokens remaining_tokens written_before written_after = (scope : Members)
    × (json_members : Members) × (tokens_after_value : List Token)
    × (value depth (token.begin_object ∷ input_tokens) ≡ Some (object scope, tokens_after_value))
    × (object_rest depth tokens_after_value ≡ Some (json_members, remaining_tokens))
    × (written_after
    ≡ written_before
    ++ members_tokens
    (member key (upgraded_scope_before after_code scope json_members) (upgraded_members json_members)))

-- the same where the scope was read, and its key was written
abbrev pub WritesScopeAndRest : (after_code : Bool) → (depth : ℕ) → (scope : Members)
    → (input_tokens remaining_tokens written_before written_after : List Token) → Type 0
WritesScopeAndRest after_code depth scope input_tokens remaining_tokens written_before written_after =
    (json_members : Members) × (object_rest depth input_tokens ≡ Some (json_members, remaining_tokens))
    × (written_after
    ≡ written_before
    ++ (json_tokens (upgraded_scope_before after_code scope json_members)
    ++ members_tokens (upgraded_members json_members)))
