use Rattle.bson_text.proofs.Parsed.{same_parse}
-- Whole texts.
use Rattle.std.proofs.Common.{◌≡◌, ℕ, List, [], ◌∷◌, true, false, Option, Some, Ok, option_and_then, refl, sym, ap, ◌∙◌, arith}
use Rattle.json.specs.Json as json
use Rattle.json.specs.Json.{if_last, read_key, value}
use Rattle.json.specs.Lex.{tokens}
use Rattle.json.specs.Token.{Token}
use Rattle.json.proofs.Grammar.{value-begin_object}
use Rattle.serde_json.specs.Data.{Data, Members, object}
use Rattle.serde_json.specs.Read.{converted}
use Rattle.bson_scalar.specs.declared.form.Doubles.{Doubles}
use Rattle.bson_scalar.specs.Table.{has_wrapper}
use Rattle.bson_model.specs.Value.{Value, Pairs, document}
use Rattle.bson_model.specs.OrderedTrees.{tree_of_json}
use Rattle.bson_model.specs.OrderedReading.{reads_tree_in_order, reads_members_in_order}
use Rattle.bson_model.specs.OrderedTexts.{HasMeaningInOrder}
use Rattle.bson_model.proofs.OfferedInOrder.{means_from, means_in, read_is_kept, text_means}
use Rattle.bson_text.specs.TraversalResults.{ReadsMembers, tree_members_in_order, members_after_brace, members_after_key}
use Rattle.bson_text.proofs.Objects.{begins, object_of, last_read}
use Rattle.bson_tokens.proofs.Offered.{was_read}
use Rattle.bson_text.specs.ErrorDenials.{IsMeaningful, ErrorRulesOutText}
use Rattle.bson_text.specs.RejectedText.{IsJsonWithinDepth, CodeBeforeScope, IsRejectedText}
use Rattle.bson_text.specs.declared.traversal_error.TraversalError.{TraversalError}
use Rattle.bson_text.specs.declared.traversal_error.TraversalError.TheVariants as failure

-- more follows the value
pub more_behind : (o : Option (json.Json × List Token)) (t : Data) (rest : List Token) (j : json.Json)
    → converted tree_of_json o ≡ Some (t, rest) → (rest ≡ [] → ⊥) → o ≡ Some (j, []) → ⊥
more_behind o t rest j read more is = let a = was_read tree_of_json o t rest read in more (same_parse o a.0 j rest [] a.1 is).1

-- a text that means a value
pub meant : (D : Doubles) (text : List ℕ) (j : json.Json) (v : Value) → IsJsonWithinDepth text j → CodeBeforeScope j
    → HasMeaningInOrder D text v → IsMeaningful D j
meant D text j v read first m = (
  first,
  m.tree,
  v,
  sym (ap (λ o. option_and_then tree_of_json (option_and_then (λ p. if_last p.0 p.1) o)) read) ∙ m.tree_read,
  means_in D m.means (read_is_kept text m.tree m.tree_read),
)

-- a text that is a document
document_means : (D : Doubles) (ms : Members) (ps : Pairs) → has_wrapper ms ≡ false → reads_members_in_order D ms ≡ Ok ps
    → reads_tree_in_order D (object ms) ≡ Ok (document ps)
document_means D ms ps plain means = rw (plain, means) refl

pub document_read : (D : Doubles) (text : List ℕ) (first : Option (List ℕ)) (q s rest : List Token) (Framed : Pairs → Type 0)
    → tokens text ≡ Token.begin_object ∷ q → read_key q ≡ Some (first, s)
    → ReadsMembers D true (tree_members_in_order (members_after_key 126 first s)) rest Framed → rest ≡ []
    → (ps : Pairs) × HasMeaningInOrder D text (document ps) × Framed ps
document_read D text first q s rest Framed is key (ms, ps, read, means, plain, wrote_document) last =
    let whole : converted tree_of_json (value 127 (tokens text)) ≡ Some (object ms, rest) =
    ap (λ x. converted tree_of_json (value 127 x)) is ∙ ap (converted tree_of_json) (value-begin_object 127 q (omega arith))
    ∙ object_of (members_after_brace 126 q) ms rest (ap tree_members_in_order (begins 126 first q s key) ∙ read) in
    let tree = last_read (value 127 (tokens text)) (object ms) (whole ∙ ap (λ l. Some (object ms, l)) last) in
    let means = document_means D ms ps (plain refl) means in
    (ps, text_means D text (object ms) (document ps) tree (means_from D (object ms) (document ps) means), wrote_document)

-- what a failure denies of a text, in the words of its caller
pub refused : (D : Doubles) (L S : Type 0) (text : List ℕ) (e : TraversalError) → ErrorRulesOutText D L S e text → IsRejectedText D L S text e
refused D L S text failure.OutOfMemory nothing = tt
refused D L S text failure.DuplicateKey nothing = λ j is once. nothing j is once
refused D L S text failure.GaveUp nothing = λ j is streams stays. nothing j is (stays, streams)
refused D L S text failure.Syntax nothing = λ j v is once first means. nothing j is (once, meant D text j v is first means)
refused D L S text (failure.Fault place) nothing = λ j v is once first means. nothing j is (once, meant D text j v is first means)
