-- The text of a whole tree.
use Rattle.std.proofs.Common.{◌≡◌, ℕ, List, [], Option, Some, option_and_then, sym, ap, ◌∙◌}
use Rattle.std.proofs.Common.{append-nil, ◌≤◌, Result, Ok, Err, IfErr, IfOk, subst}
use Rattle.std.proofs.lemmas.Option.{same_Some}
use Rattle.json.specs.Json.{Json, if_last, value}
use Rattle.json.specs.Lex.{tokens}
use Rattle.json.specs.Print.{print}
use Rattle.json.specs.Token.{Token}
use Rattle.json.specs.Tree.{depth, json_tokens}
use Rattle.json.specs.declared.error.Error.{Error}
use Rattle.json.proofs.Printed.Trees.{value-json_tokens}
use Rattle.serde_json.specs.Read.{max_depth}
use Rattle.bson_tokens.specs.ReadOutcomes.{NothingReadIfInvalid}
use Rattle.bson_tokens.specs.Normalized.{normalized, IsNormalizedText}
use Rattle.bson_tokens.specs.DuplicateKeys.{json_of}
use Rattle.bson_model.specs.declared.options.KeyOrder.TheVariants.{AsGiven}
use Rattle.bson_v1.specs.Upgraded.{upgraded}
use Rattle.bson_v1.specs.Text.{IsUpgradedText, IsRewritten}

abbrev whole : Option (Json × List Token) → Option Json
whole o = option_and_then (λ p. if_last p.0 p.1) o

pub read_whole : (text : List ℕ) (j : Json) → value 127 (tokens text) ≡ Some (j, []) → json_of text ≡ Some j
read_whole text j e = ap whole e

pub written : (text out : List ℕ) (j : Json) (ts : List Token) → value 127 (tokens text) ≡ Some (j, [])
    → ts ≡ json_tokens (upgraded j) → out ≡ print ts → tokens (print ts) ≡ ts → IsRewritten text out
written text out j ts read is text_is again =
    record {
      tree = j;
      is_tree = read_whole text j read;
      compact = text_is ∙ ap print is;
      read_again = λ shallow. ap (λ s. whole (value 127 (tokens s))) text_is ∙ ap (λ us. whole (value 127 us)) (again ∙ is)
          ∙ ap (λ us. whole (value 127 us)) (sym (append-nil (json_tokens (upgraded j))))
          ∙ ap whole (value-json_tokens (upgraded j) 127 [] shallow);
    }

-- ---- of the text with each key once

pub upgraded_of : (text normalized_input out : List ℕ) → IsNormalizedText AsGiven text normalized_input → IsRewritten normalized_input out
    → IsUpgradedText text out
upgraded_of text normalized_input out first then =
    let same : normalized AsGiven first.tree ≡ then.tree =
    same_Some (normalized AsGiven first.tree) then.tree (sym first.read_again ∙ then.is_tree) in
    record {
      normalized_input = normalized_input;
      text_is_normalized = first;
      compact = then.compact ∙ ap (λ j. print (json_tokens (upgraded j))) (sym same);
      read_again = subst (λ j. depth (upgraded j) ≤ max_depth → json_of out ≡ Some (upgraded j)) (sym same) then.read_again;
    }

pub never_breaks : {X : Type 0} {Y : Type 0} (text normalized_input : List ℕ) (o : Option Y) (r : Result X Error)
    → IsNormalizedText AsGiven text normalized_input → IfErr r (NothingReadIfInvalid (json_of normalized_input)) → IfErr r (NothingReadIfInvalid o)
never_breaks text normalized_input o (Ok x) first h = tt
never_breaks text normalized_input o (Err e) first h = λ broken. let never = sym (h broken) ∙ first.read_again in cc
