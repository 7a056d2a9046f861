-- What a writer of a text has written: for private clauses.
use Rattle.std.specs.Prelude.{◌≡◌, ◌++◌, List, Ok}
use Rattle.json.specs.Token.{Token}
use Rattle.serde_json.specs.Data.{Data, Members, object}
use Rattle.bson_scalar.specs.Tokens.{tokens_of}
use Rattle.bson_model.specs.Value.{Value, Pairs}
use Rattle.bson_model.specs.OrderedWriting.{writes_value_in_order, writes_pairs_in_order}
use Rattle.bson_text.specs.declared.text_writer.TextWriter.{TextWriter}

-- these tokens come after the old ones, and nothing else changes
abbrev pub HasTokensAdded : (old : TextWriter) → (added_tokens : List Token) → (new : TextWriter) → Type 0
HasTokensAdded old added_tokens new = (new.doubles ≡ old.doubles) × (new.form ≡ old.form)
    × (new.json_writer.before ≡ old.json_writer.before)
    × (new.json_writer.tokens ≡ old.json_writer.tokens ++ added_tokens)

abbrev pub HasValueTokens : (old : TextWriter) → Value → (new : TextWriter) → Type 0
HasValueTokens old written_value new = (value_tree : Data)
    × (writes_value_in_order old.doubles old.form written_value ≡ Ok value_tree)
    × HasTokensAdded old (tokens_of value_tree) new

abbrev pub HasPairTokens : (old : TextWriter) → Pairs → (new : TextWriter) → Type 0
HasPairTokens old document_pairs new =
    (tree_members : Members) × (writes_pairs_in_order old.doubles old.form document_pairs ≡ Ok tree_members)
    × HasTokensAdded old (tokens_of (object tree_members)) new
