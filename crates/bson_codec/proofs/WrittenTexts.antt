-- The texts that writers finish with are those of the documents that they wrote.
use Rattle.std.proofs.Common.{◌≡◌, ℕ, List, [], ◌++◌, true, false, Result, Ok, Err, refl, sym, ap, ◌∙◌, subst}
use Rattle.std.specs.Prelude.{is_ok}
use Rattle.json.specs.Print.{print}
use Rattle.serde_json.specs.Data.{object}
use Rattle.serde_json.specs.Written.{comma_if}
use Rattle.bson_scalar.specs.Forms.{form_in}
use Rattle.bson_scalar.specs.Tokens.{tokens_of}
use Rattle.bson_scalar.specs.TreeText.{text_of, tree_text}
use Rattle.bson_scalar.specs.declared.form.Doubles.{Doubles}
use Rattle.bson_scalar.specs.declared.form.Form.{Form}
use Rattle.bson_scalar.proofs.Offered.{text_is}
use Rattle.bson_model.specs.Displayed.{display_text}
use Rattle.bson_model.specs.Normal.{writable_in}
use Rattle.bson_model.specs.OrderedWriting.{writes_value_in_order}
use Rattle.bson_model.specs.Sorted.{sorted}
use Rattle.bson_model.specs.Value.{Pairs, document}
use Rattle.bson_model.specs.ValueTexts.{IsTextInKeyOrder, IsTextInOrder, IsTextWithDoubles}
use Rattle.bson_model.specs.Writing.{writes_value_in}
use Rattle.bson_model.specs.declared.options.KeyOrder.{KeyOrder}
use Rattle.bson_model.specs.declared.options.KeyOrder.TheVariants.{AsGiven}
use Rattle.bson_model.specs.declared.options.Options.{Options}
use Rattle.bson_model.proofs.Offered.{canon_from_in, has_no_float as has_no_float_sorted, writable_is_in}
use Rattle.bson_model.proofs.OfferedInOrder.{has_no_float, sorted_text, text_in_order, writable_is, written_from}
use Rattle.bson_text.specs.DisplayOutput.{HasDisplayOfPairs, arranged_pairs, separator_if}
use Rattle.bson_text.specs.SortedOutput.{HasSortedPairs}
use Rattle.bson_text.specs.TextOutput.{HasPairTokens}
use Rattle.bson_text.specs.declared.display_writer.DisplayWriter.{DisplayWriter}
use Rattle.bson_text.specs.declared.sorted_writer.SortedWriter.{SortedWriter}
use Rattle.bson_text.specs.declared.text_writer.TextWriter.{TextWriter}
use Rattle.bson_bytes.specs.Source.{ReadsAllTo}
use Rattle.bson_bytes.specs.declared.fault.Fault.{Fault}
use Rattle.bson_bytes.specs.declared.stop.Stop.{Stop}
use Rattle.bson_codec.specs.Diagnostics.{line_feed}
use Rattle.bson_codec.specs.DumpRuns.{WritesLine}
use Rattle.bson_codec.specs.WriterSinks.{IsSound}
use Rattle.bson_codec.specs.declared.documents.Line.{Line}
use Rattle.bson_codec.specs.declared.documents.Line.TheVariants.{Text}
use Rattle.bson_codec.proofs.Unsorted.{unsorted}

pub in_order : (D : Doubles) (f : Form) (ps : Pairs) (text : List ℕ) (old new : TextWriter) → HasPairTokens old ps new
    → IsSound (document ps) → old.doubles ≡ D → old.form ≡ f → old.json_writer.tokens ≡ []
    → text ≡ print new.json_writer.tokens → IsTextInOrder D f (document ps) text × (writable_in D (document ps) ≡ true)
in_order D f ps text old new (us, w, (d, g, before, is)) sound mode form none all =
    let v = document ps in
    let u = object us in
    let writes : writes_value_in_order D f v ≡ Ok u =
    ap (λ e. writes_value_in_order e f v) (sym mode) ∙ ap (λ h. writes_value_in_order old.doubles h v) (sym form) ∙ rw w refl in
    let from = written_from D f v u writes in
    let compact : text ≡ tree_text D f u =
    all ∙ ap print (is ∙ ap (λ l. l ++ tokens_of u) none) ∙ sym (text_is D f u (has_no_float D f v u from)) in
    (text_in_order D f v u text compact from sound.0 sound.1, sym (writable_is D f v) ∙ ap is_ok writes)

pub by_key : (D : Doubles) (f : Form) (ps : Pairs) (old new : SortedWriter) → HasSortedPairs old ps new
    → IsSound (document ps) → old.doubles ≡ D → old.form ≡ f → old.needs_comma ≡ false → old.text.items ≡ []
    → IsTextWithDoubles D f (document ps) new.text.items × (writable_in D (document ps) ≡ true)
by_key D f ps old new (us, w, put) sound mode form first none =
    let v = document ps in
    let u = object us in
    let in_turn : writes_value_in D f (sorted v) ≡ Ok u =
    ap (λ e. writes_value_in e f (sorted v)) (sym mode) ∙ ap (λ h. writes_value_in old.doubles h (sorted v)) (sym form) ∙ rw w refl in
    let writes : writes_value_in D f v ≡ Ok u = sym (unsorted D f v sound.1) ∙ in_turn in
    let compact : new.text.items ≡ tree_text D f u =
    put.4 ∙ ap (λ l. l ++ (comma_if old.needs_comma ++ text_of u)) none ∙ ap (λ b. comma_if b ++ text_of u) first
    ∙ sym (text_is D f u (has_no_float_sorted D f v u writes)) in
    (sorted_text D f v u new.text.items compact (canon_from_in D f v u writes) sound.0, sym (writable_is_in D f v) ∙ ap is_ok writes)

pub shown : (ps : Pairs) (old new : DisplayWriter) → HasDisplayOfPairs old ps new → old.key_order ≡ AsGiven
    → old.needs_comma ≡ false → old.text.items ≡ [] → new.text.items ≡ display_text (document ps)
shown ps old new (after, same, member_starts, is) order first none =
    is ∙ ap (λ l. l ++ (separator_if old.needs_comma ++ display_text (document (arranged_pairs old.key_order ps)))) none
    ∙ ap (λ b. separator_if b ++ display_text (document (arranged_pairs old.key_order ps))) first
    ∙ ap (λ o. display_text (document (arranged_pairs o ps))) order

-- ---- lines

-- what was read, with less that is known of it
pub reads_weaker : {A : Type 0} (May : Stop → Type 0) (P Q : Pairs → A → Type 0) (result : Result A Stop) (r : Result Pairs Fault)
    → ((ps : Pairs) (x : A) → P ps x → Q ps x) → ReadsAllTo May P result r → ReadsAllTo May Q result r
reads_weaker May P Q (Ok x) r f (ps, read, h) = (ps, read, f ps x h)
reads_weaker May P Q (Err e) r f h = h

pub line_written : (options : Options) (line : Line) (f g : Form) (order : KeyOrder) (ps : Pairs) (text : List ℕ)
    → line ≡ Text f → g ≡ form_in options.layout f → options.key_order ≡ order
    → IsTextInKeyOrder order options.doubles g (document ps) text × (writable_in options.doubles (document ps) ≡ true)
    → WritesLine options line ps (text ++ line_feed)
line_written options line f g order ps text is form in_turn (written, writable) =
    let D = options.doubles in
    let v = document ps in
    subst (λ l. WritesLine options l ps (text ++ line_feed)) (sym is) (
      writable,
      (
        text,
        subst (λ o. IsTextInKeyOrder o D (form_in options.layout f) v text) (sym in_turn)
            (subst (λ h. IsTextInKeyOrder order D h v text) form written),
        refl,
      ),
    )
