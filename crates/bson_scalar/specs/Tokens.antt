-- The tokens of trees, and what a function that writes a tree returns.
use Rattle.std.specs.Prelude.{◌≡◌, ℕ, List, [], ◌∷◌, ◌++◌, codes, Result, Ok, Err}
use Rattle.json.specs.Token.{Token, begin_object, key, string}
use Rattle.serde_json.specs.Data.{Data, Members, no_members, member}
pub use Rattle.bson_scalar.specs.TreeText.{tokens_of}
use Rattle.bson_scalar.specs.Written.{WriteFault, IsWriteFailureOf}
use Rattle.bson_scalar.specs.declared.write_error.WriteError.{WriteError}

-- the tokens of code with its scope, up to the scope
abbrev pub code_tokens : (code_text : List ℕ) → List Token
code_tokens code_text = begin_object ∷ key (codes "$code") ∷ string code_text ∷ key (codes "$scope") ∷ []

-- the members with one more, last
abbrev pub with_last_member : Members → (key_text : List ℕ) → Data → Members
with_last_member no_members key_text subtree = member key_text subtree no_members
with_last_member (member other_key other_subtree member_list) key_text subtree =
    member other_key other_subtree (with_last_member member_list key_text subtree)

-- the tokens of each key, followed by those of its tree
abbrev pub members_as_tokens : Members → List Token
members_as_tokens no_members = []
members_as_tokens (member key_text subtree member_list) =
    key key_text ∷ (tokens_of subtree ++ members_as_tokens member_list)

-- A function that writes to a sink returned what writing gives, or memory ran out.
abbrev pub IsSinkResult : {Tree : Type 0} → (wrote_tree : Data → Tree → Type 0) → (call_result : Result Tree WriteError)
    → (write_result : Result Data WriteFault)
    → Type 0
IsSinkResult wrote_tree (Ok written_tree) (Ok json_tree) = wrote_tree json_tree written_tree
IsSinkResult wrote_tree (Ok written_tree) (Err write_error) = ⊥
IsSinkResult wrote_tree (Err write_error) write_result = IsWriteFailureOf write_error write_result

-- What a function returned is what writing gives, unless memory ran out: the tokens of the tree come after the old
-- ones.
abbrev pub AppendsTreeTokens : (call_result : Result (Unit {0}) WriteError) → (write_result : Result Data WriteFault)
    → (old_tokens new_tokens : List Token) → Type 0
AppendsTreeTokens call_result write_result old_tokens new_tokens =
    IsSinkResult (λ json_tree unit_value. new_tokens ≡ old_tokens ++ tokens_of json_tree) call_result write_result
