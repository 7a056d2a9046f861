-- A layout is read as the text is of which it is one.
use Rattle.std.proofs.Common.{◌≡◌, ◌++◌, ℕ, List, Vec, Global, Option, Some, Result, Ok, Err, IfOk, option_and_then, refl, sym, ap, ◌∙◌, subst}
use Rattle.std.specs.Prelude.{IsUtf8}
use Rattle.std.proofs.lemmas.List.{append_cancel_right}
use Rattle.json.specs.Json.{Json, value as json_value}
use Rattle.json.specs.Lex.{tokens}
use Rattle.serde_json.specs.Read.{max_depth, of_json, read}
use Rattle.bson_model.specs.OrderedTrees.{tree_of_json, read_in_order}
use Rattle.bson_scalar.specs.TreeText.{tree_text}
use Rattle.bson_scalar.specs.declared.form.Form.{Form}
use Rattle.bson_scalar.specs.declared.form.Form.TheVariants.{Canonical, MongoDbCanonical, MongoDbRelaxed, Relaxed}
use Rattle.bson_model.specs.Value.{Value}
use Rattle.bson_model.specs.declared.options.KeyOrder.{KeyOrder}
use Rattle.bson_model.specs.declared.options.KeyOrder.TheVariants.{Ascending, AsGiven}
use Rattle.bson_model.specs.declared.options.Options.{Options}
use Rattle.bson_convert.specs.Convert.{IsConvertedText, IsOutputIn, IsWrittenIn, newline}
use Rattle.bson_convert.specs.declared.error.Error.{Error}
use Rattle.bson_convert.proofs.Offered.{again, again_in_order, line_read, parsed_whole, read_then, text_converts_by, tokens_then, whole}
use Rattle.bson_convert.specs.InOrder.{IsLineInOrder, IsOutputInOrder}
use Rattle.bson_run.specs.Indent.{indented_form, mode_of, ConvertsIndented, IsIndentedOutput, IsFixedPointIndented}

module _ (n : ℕ) (text output : List ℕ) (is : IsIndentedOutput n text output) where
  -- where the text is read, the layout has its tokens
  tokens_alike : {A : Type 0} (of : Json → Option A) (t : A)
      → option_and_then of (whole (json_value max_depth (tokens text))) ≡ Some t → tokens output ≡ tokens text
  tokens_alike of t h =
      let j = parsed_whole of (json_value max_depth (tokens text)) t h in
      ap tokens is.line ∙ tokens_then is.indented_text ∙ is.keeps_tokens max_depth j.0 j.1

  alike : {A : Type 0} (of : Json → Option A) (t : A)
      → option_and_then of (whole (json_value max_depth (tokens text))) ≡ Some t
      → option_and_then of (whole (json_value max_depth (tokens output))) ≡ Some t
  alike of t h = ap (λ ts. option_and_then of (whole (json_value max_depth ts))) (tokens_alike of t h) ∙ h

module _ (o : Options) (f : Form) (n : ℕ) (bytes output : List ℕ) (utf8 : IsUtf8 output) where
  laid_again : (x : ConvertsIndented Ascending o f n bytes output) → IsWrittenIn o (indented_form o f) x.converts.value (x.text ++ newline)
      → ((v : Value) → IsWrittenIn o (indented_form o f) v (x.text ++ newline) → IsOutputIn o (mode_of f) v (x.text ++ newline))
      → IsFixedPointIndented Ascending o f n output
  laid_again x w of =
      let a = again o (indented_form o f) bytes (x.text ++ newline) x.converts.tree x.converts.value x.converts.text x.converts.meaning w in
      record {
        tree = w.tree;
        indented_text = subst (λ s. IsIndentedOutput n s output) (append_cancel_right x.text (tree_text o.doubles (indented_form o f) w.tree) newline w.line.text)
            x.is_output;
        again = λ shallow.
            let read_text = sym (read_then x.text) ∙ ap read w.line.text ∙ read_then (tree_text o.doubles (indented_form o f) w.tree)
            ∙ w.line.read_again shallow in
            record {
              text = x.text;
              converts = record {
                tree = w.tree;
                value = a.value;
                text = record { utf8 = utf8; tree_read = alike n x.text output x.is_output of_json w.tree read_text };
                meaning = a.meaning;
                is_output = of a.value a.is_written;
              };
              is_output = x.is_output;
            };
      }

-- ---- in the order of the keys

module _ (o : Options) (f : Form) (n : ℕ) (bytes output : List ℕ) (utf8 : IsUtf8 output) where
  laid_again_in_order : (x : ConvertsIndented AsGiven o f n bytes output)
      → (line : IsLineInOrder o.doubles (indented_form o f) x.converts.value (x.text ++ newline))
      → ((v : Value) → IsLineInOrder o.doubles (indented_form o f) v (x.text ++ newline) → IsOutputInOrder o (mode_of f) v (x.text ++ newline))
      → IsFixedPointIndented AsGiven o f n output
  laid_again_in_order x line of =
      let texts : x.text ≡ line.text = append_cancel_right x.text line.text newline line.line in
      record {
        tree = line.is_text.tree;
        indented_text = subst (λ s. IsIndentedOutput n s output) (texts ∙ line.is_text.compact) x.is_output;
        again = λ shallow.
            let read_text = ap read_in_order texts ∙ line_read o (indented_form o f) bytes (x.text ++ newline) x.converts.value x.converts.meaning
            line shallow in
            record {
              text = x.text;
              converts = again_in_order o (indented_form o f) (mode_of f) bytes (x.text ++ newline) output x.converts.value x.converts.meaning line
                  of utf8 (alike n x.text output x.is_output tree_of_json line.is_text.tree read_text);
              is_output = x.is_output;
            };
      }

-- ---- in either order

pub laid_kept : (k : KeyOrder) (o : Options) (f : Form) (n : ℕ) (bytes output : List ℕ)
    → ConvertsIndented k o f n bytes output → IsUtf8 output → IsFixedPointIndented k o f n output
laid_kept Ascending o Canonical n bytes output x utf8 =
    laid_again o Canonical n bytes output utf8 x x.converts.is_output (λ v w. w)
laid_kept Ascending o Relaxed n bytes output x utf8 =
    laid_again o Relaxed n bytes output utf8 x x.converts.is_output (λ v w. w)
laid_kept Ascending o MongoDbCanonical n bytes output x utf8 =
    laid_again o MongoDbCanonical n bytes output utf8 x x.converts.is_output (λ v w. w)
laid_kept Ascending o MongoDbRelaxed n bytes output x utf8 =
    laid_again o MongoDbRelaxed n bytes output utf8 x x.converts.is_output (λ v w. w)
laid_kept AsGiven o Canonical n bytes output x utf8 =
    laid_again_in_order o Canonical n bytes output utf8 x x.converts.is_output (λ v line. line)
laid_kept AsGiven o Relaxed n bytes output x utf8 =
    laid_again_in_order o Relaxed n bytes output utf8 x x.converts.is_output (λ v line. line)
laid_kept AsGiven o MongoDbCanonical n bytes output x utf8 =
    laid_again_in_order o MongoDbCanonical n bytes output utf8 x x.converts.is_output (λ v line. line)
laid_kept AsGiven o MongoDbRelaxed n bytes output x utf8 =
    laid_again_in_order o MongoDbRelaxed n bytes output utf8 x x.converts.is_output (λ v line. line)

module _ (k : KeyOrder) (o : Options) (f : Form) (n : ℕ) (bytes text : List ℕ)
    (is : IsConvertedText k o (mode_of f) bytes text) where
  pub indented : (output : List ℕ) → IsIndentedOutput n text output → ConvertsIndented k o f n bytes output
  indented output indented_text = record { text = text; converts = text_converts_by k o (mode_of f) bytes text (text ++ newline) is refl; is_output = indented_text }

  pub indented_kept : (r : Result (Vec ℕ Global) Error) → IfOk r (λ output. IsIndentedOutput n text output.items)
      → IfOk r (λ output. IsUtf8 output.items) → IfOk r (λ output. IsFixedPointIndented k o f n output.items)
  indented_kept (Ok output) indented_text utf8 = laid_kept k o f n bytes output.items (indented output.items indented_text) utf8
  indented_kept (Err e) indented_text utf8 = tt
