-- Parts of a wrapper: for private clauses.
use Rattle.std.specs.Prelude.{List, [], ◌∷◌, ⊤}
use Rattle.json.specs.Token.{Token}
use Rattle.bson_text.specs.declared.wrapper_parts.Scope.{Scope}
use Rattle.bson_text.specs.declared.wrapper_parts.Scope.TheVariants as scope

-- the token at which a scope begins
abbrev pub scope_token : Scope → Token
scope_token scope.Null = Token.null
scope_token scope.Object = Token.begin_object

-- no scope begins there
abbrev pub IsNotScopeStart : List Token → Type 0
IsNotScopeStart [] = ⊤
IsNotScopeStart (Token.begin_object ∷ later_tokens) = ⊥
IsNotScopeStart (Token.end_object ∷ later_tokens) = ⊤
IsNotScopeStart (Token.begin_array ∷ later_tokens) = ⊤
IsNotScopeStart (Token.end_array ∷ later_tokens) = ⊤
IsNotScopeStart (Token.key token_text ∷ later_tokens) = ⊤
IsNotScopeStart (Token.string token_text ∷ later_tokens) = ⊤
IsNotScopeStart (Token.number token_text ∷ later_tokens) = ⊤
IsNotScopeStart (Token.boolean truth ∷ later_tokens) = ⊤
IsNotScopeStart (Token.null ∷ later_tokens) = ⊥
IsNotScopeStart (Token.bad ∷ later_tokens) = ⊤
