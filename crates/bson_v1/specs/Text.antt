-- What is read in place of a text.
use Rattle.std.specs.Prelude.{◌≡◌, ◌≤◌, ℕ, List, Some}
use Rattle.json.specs.Json.{Json}
use Rattle.json.specs.Print.{print}
use Rattle.json.specs.Tree.{depth, json_tokens}
use Rattle.serde_json.specs.Read.{max_depth}
use Rattle.bson_tokens.specs.Normalized.{normalized, IsNormalizedText}
use Rattle.bson_tokens.specs.DuplicateKeys.{json_of}
use Rattle.bson_model.specs.declared.options.KeyOrder.TheVariants.{AsGiven}
use Rattle.bson_v1.specs.Upgraded.{upgraded}

-- the compact text of the tree of v2 that the text's tree denotes, with the last value of each of its keys; it is
-- read as that tree if it nests no deeper than a text may
pub record IsUpgradedText (text written : List ℕ) : Type 0 where
  pub normalized_input : List ℕ
  pub text_is_normalized : IsNormalizedText AsGiven text normalized_input
  pub compact : written ≡ print (json_tokens (upgraded (normalized AsGiven text_is_normalized.tree)))
  pub read_again : depth (upgraded (normalized AsGiven text_is_normalized.tree)) ≤ max_depth
      → json_of written ≡ Some (upgraded (normalized AsGiven text_is_normalized.tree))

-- ---- for private clauses

-- the same of a text's own tree
pub record IsRewritten (text written : List ℕ) : Type 0 where
  pub tree : Json
  pub is_tree : json_of text ≡ Some tree
  pub compact : written ≡ print (json_tokens (upgraded tree))
  pub read_again : depth (upgraded tree) ≤ max_depth → json_of written ≡ Some (upgraded tree)
