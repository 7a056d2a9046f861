-- Bytes are the text of one tree.
use Rattle.std.proofs.Common.{◌≡◌, ℕ, List, sym, ◌∙◌}
use Rattle.std.proofs.lemmas.Option.{same_Some}
use Rattle.serde_json.specs.Data.{Data}
use Rattle.bson_model.specs.TextMeaning.{IsTextOf}

pub tree_one : (bytes : List ℕ) (t u : Data) → IsTextOf bytes t → IsTextOf bytes u → t ≡ u
tree_one bytes t u a b = same_Some t u (sym a.tree_read ∙ b.tree_read)
