-- The text of a whole tree.
use Rattle.std.proofs.Common.{◌≡◌, ℕ, List, [], ◌++◌, false, Some, option_and_then, sym, ap, ◌∙◌}
use Rattle.json.specs.Json.{if_last, value}
use Rattle.json.specs.Lex.{tokens}
use Rattle.json.specs.Print.{print}
use Rattle.json.specs.Token.{Token}
use Rattle.json.specs.Tree.{json_tokens}
use Rattle.serde_json.specs.Written.{comma_if}
use Rattle.json.specs.declared.error.Error.{Error}
use Rattle.json.specs.declared.error.Error.TheVariants.{Invalid, OutOfMemory}
use Rattle.bson_tokens.specs.Normalized.{IsNormalizedText, normalized}
use Rattle.bson_tokens.specs.NormalizerStates.{ReadAndNormalized, all_numbers_in_range, if_valid}
use Rattle.bson_tokens.specs.DuplicateKeys.{json_of}
use Rattle.bson_tokens.specs.declared.normalizer.Normalizer.{Normalizer}
use Rattle.bson_model.specs.declared.options.KeyOrder.{KeyOrder}
use Rattle.bson_tokens.proofs.Again.{normalized_again}
use Rattle.bson_tokens.proofs.Ranged.{has_numbers, was_sound}

pub text_normalized : (a : KeyOrder) (text out : List ℕ) (ts rest : List Token) (old new : Normalizer)
    → ts ≡ tokens text → rest ≡ [] → old.key_order ≡ a → old.needs_comma ≡ false → old.text.items ≡ []
    → ReadAndNormalized (if_valid all_numbers_in_range (value 127 ts)) (normalized old.key_order) rest old new → out ≡ new.text.items
    → IsNormalizedText a text out
text_normalized a text out ts rest old new start end mode first none (j, read, added) is =
    let was = was_sound all_numbers_in_range (value 127 ts) j rest read in
    let whole : json_of text ≡ Some j =
    ap (λ us. option_and_then (λ p. if_last p.0 p.1) (value 127 us)) (sym start)
    ∙ ap (option_and_then (λ p. if_last p.0 p.1)) (was.0 ∙ ap (λ r. Some (j, r)) end) in
    let written : out ≡ print (json_tokens (normalized a j)) =
    is ∙ added.text ∙ ap (λ l. l ++ (comma_if old.needs_comma ++ print (json_tokens (normalized old.key_order j)))) none
    ∙ ap (λ b. comma_if b ++ print (json_tokens (normalized old.key_order j))) first
    ∙ ap (λ x. print (json_tokens (normalized x j))) mode in
    record {
      tree = j;
      is_tree = whole;
      numbers = has_numbers j was.1;
      compact = written;
      read_again = ap json_of written ∙ normalized_again a text j whole;
    }

pub unlike : (e : Error) → e ≡ OutOfMemory → e ≡ Invalid → ⊥
unlike e refused broken = cc
