-- Texts that a writer of a text with ascending keys writes one after another.
use Rattle.std.proofs.Common.{◌≡◌, ℕ, ◌+◌, Bool, true, false, List, [], ◌∷◌, ◌++◌, Result, Ok, Err, refl, sym, ap, ◌∙◌}
use Rattle.std.proofs.Common.{subst, append_assoc, MatchResult}
use Rattle.std.specs.Prelude.{IsUtf8}
use Rattle.std.specs.Result.{IsErrAnd}
use Rattle.json.specs.Print.{print}
use Rattle.json.specs.Token.{Token}
use Rattle.serde_json.specs.Data.{Data, Items, no_items, item, array, object}
use Rattle.serde_json.specs.Written.{comma_if}
use Rattle.bson_scalar.specs.Tokens.{tokens_of, code_tokens, AppendsTreeTokens}
use Rattle.bson_scalar.specs.TreeText.{text_of, tree_text}
use Rattle.bson_scalar.specs.Written.{WriteFault}
use Rattle.bson_scalar.specs.declared.form.Doubles.{Doubles}
use Rattle.bson_scalar.specs.declared.form.Form.{Form}
use Rattle.bson_scalar.proofs.Offered.{text_is}
use Rattle.bson_model.specs.Sorted.{sorted, sorted_items, sorted_pairs}
use Rattle.bson_model.specs.Value as model
use Rattle.bson_model.specs.Value.{Value, Values, no_values, Pairs, code_scope, document}
use Rattle.bson_model.specs.Writing.{writes_value_in, writes_items_in, writes_pairs_in, with_scope}
use Rattle.bson_model.proofs.Offered.{canon_from_in, has_no_float, in_range_in, read_tree}
use Rattle.bson_model.proofs.OfferedInOrder.{meant_by_default, sorted_text}
use Rattle.bson_model.specs.OrderedTexts.{HasMeaningInOrder}
use Rattle.bson_model.specs.declared.options.KeyOrder.TheVariants.{Ascending}
use Rattle.bson_text.specs.OutputTexts.{IsFilteredText}
use Rattle.bson_text.specs.SortedOutput.{HasOutputAdded, HasOutputAfterComma, HasSortedValue, HasSortedPairs}
use Rattle.bson_text.specs.TraversalResults.{ItemsWritten}
use Rattle.bson_text.specs.declared.sorted_writer.SortedWriter.{SortedWriter}
use Rattle.bson_text.proofs.PartTexts.{printed_items, no_more_items, one_more_item, array_printed, code_printed}

-- a text and then another
joined : (a b c : SortedWriter) (s t : List ℕ) (near needs_comma : Bool) → HasOutputAdded a s near b → HasOutputAdded b t needs_comma c
    → HasOutputAdded a (s ++ t) needs_comma c
joined a b c s t near needs_comma (d, f, w, starts, is) (e, g, x, kept, more) =
    (e ∙ d, g ∙ f, x, kept ∙ starts, more ∙ ap (λ l. l ++ t) is ∙ append_assoc a.text.items s t)

-- the same text, as it may be written otherwise
as_text : (a b : SortedWriter) (s t : List ℕ) (needs_comma : Bool) → s ≡ t → HasOutputAdded a s needs_comma b → HasOutputAdded a t needs_comma b
as_text a b s t needs_comma is h = subst (λ l. HasOutputAdded a l needs_comma b) is h

-- what holds in the mode and form of a later state
at_first : (a b : SortedWriter) (s : List ℕ) (needs_comma : Bool) (Holds : Doubles → Form → Type 0) → HasOutputAdded a s needs_comma b
    → Holds b.doubles b.form → Holds a.doubles a.form
at_first a b s needs_comma Holds (mode, form, w, starts, is) h =
    subst (λ D. Holds D a.form) mode (subst (Holds b.doubles) form h)

-- ---- a part

pub part_added : (a b c : SortedWriter) (needs_comma : Bool) (old new ts : List Token)
    → HasOutputAdded a (comma_if a.needs_comma) a.needs_comma b → HasOutputAdded b (print new) needs_comma c → old ≡ [] → new ≡ old ++ ts
    → HasOutputAfterComma a (print ts) needs_comma c
part_added a b c needs_comma old new ts comma part none is =
    as_text a c _ _ needs_comma (ap (λ l. comma_if a.needs_comma ++ print l) (is ∙ ap (λ l. l ++ ts) none))
    (joined a b c (comma_if a.needs_comma) (print new) a.needs_comma needs_comma comma part)

pub printed : (r : Result Data WriteFault) (old new : List Token) → AppendsTreeTokens (Ok tt) r old new
    → (t : Data) × (r ≡ Ok t) × (new ≡ old ++ tokens_of t)
printed (Ok t) old new h = (t, refl, h)
printed (Err e) old new h = absurd h

-- where an error is turned into another
pub was_ok : {X F G : Type 0} (Q : F → G → Type 0) (r : Result X F) (q : Result X G) (x : X)
    → MatchResult r (λ y. q ≡ Ok y) (λ e. IsErrAnd q (Q e)) → q ≡ Ok x → r ≡ Ok x
was_ok Q (Ok y) q x is now = cc
was_ok Q (Err e) q x is now = absurd (subst (λ s. IsErrAnd s (Q e)) now is)

-- ---- arrays

items_added : (n : ℕ) (vs : Values) (old now new : SortedWriter)
    → ItemsWritten (λ a k v b. HasSortedValue a v b) (λ i. []) n vs old now → HasOutputAdded now (93 ∷ []) true new
    → (us : Items) × (writes_items_in old.doubles old.form (sorted_items vs) ≡ Ok us)
    × HasOutputAdded old (printed_items old.needs_comma us) true new
items_added n no_values old now new is ended = (
  no_items,
  refl,
  as_text old new _ _ true (sym (no_more_items old.needs_comma)) (subst (λ a. HasOutputAdded a (93 ∷ []) true new) (sym is) ended),
)
items_added n (model.value v vs) old now new (mid, (u, w, put), more) ended =
    let (us, ws, rest) = items_added (n + 1) vs mid now new more ended in
    let comma = comma_if old.needs_comma in
    let s = comma ++ text_of u in (
      item u us,
      rw (w, at_first old mid s true (λ D f. writes_items_in D f (sorted_items vs) ≡ Ok us) put ws) refl,
      as_text old new _ _ true
          (append_assoc comma (text_of u) (printed_items mid.needs_comma us)
          ∙ ap (λ b. comma ++ (text_of u ++ printed_items b us)) put.2
          ∙ one_more_item old.needs_comma u us)
          (joined old mid new s (printed_items mid.needs_comma us) true true put rest),
    )

pub array_added : (vs : Values) (old mark now new : SortedWriter) → HasOutputAfterComma old (91 ∷ []) false mark
    → ItemsWritten (λ a k v b. HasSortedValue a v b) (λ i. []) 0 vs mark now → HasOutputAdded now (93 ∷ []) true new
    → HasSortedValue old (model.array vs) new
array_added vs old mark now new begin written ended =
    let (us, ws, rest) = items_added 0 vs mark now new written ended in
    let comma = comma_if old.needs_comma in
    let s = comma ++ 91 ∷ [] in (
      array us,
      rw (at_first old mark s false (λ D f. writes_items_in D f (sorted_items vs) ≡ Ok us) begin ws) refl,
      as_text old new _ _ true
          (append_assoc comma (91 ∷ []) (printed_items mark.needs_comma us)
          ∙ ap (λ b. comma ++ 91 ∷ printed_items b us) begin.2
          ∙ ap (λ l. comma ++ l) (array_printed us))
          (joined old mark new s (printed_items mark.needs_comma us) false true begin rest),
    )

-- ---- documents, and code with one

pub embedded : (ps : Pairs) (old new : SortedWriter) → HasSortedPairs old ps new → HasSortedValue old (document ps) new
embedded ps old new (ms, w, put) = (object ms, rw w refl, put)

pub code_added : (s : List ℕ) (ps : Pairs) (old mark now new : SortedWriter)
    → HasOutputAfterComma old (print (code_tokens s)) false mark → HasSortedPairs mark ps now → HasOutputAdded now (125 ∷ []) true new
    → HasSortedValue old (code_scope s ps) new
code_added s ps old mark now new begin (ms, w, put) ended =
    let comma = comma_if old.needs_comma in
    let front = print (code_tokens s) in
    let scope = comma_if mark.needs_comma ++ text_of (object ms) in (
      with_scope s ms,
      rw (at_first old mark (comma ++ front) false (λ D f. writes_pairs_in D f (sorted_pairs ps) ≡ Ok ms) begin w) refl,
      as_text old new _ _ true
          (append_assoc comma front (scope ++ 125 ∷ [])
          ∙ ap (λ b. comma ++ (front ++ ((comma_if b ++ text_of (object ms)) ++ 125 ∷ []))) begin.2
          ∙ ap (λ l. comma ++ l) (code_printed s ms))
          (joined old mark new (comma ++ front) (scope ++ 125 ∷ []) false true begin
          (joined mark now new scope (125 ∷ []) true true put ended)),
    )

-- ---- a whole text

pub text_sorted : (D : Doubles) (f : Form) (text : List ℕ) (old new : SortedWriter) → IsUtf8 text
    → (v : Value) × HasMeaningInOrder D text v × HasSortedValue old v new → old.doubles ≡ D → old.form ≡ f
    → old.needs_comma ≡ false → old.text.items ≡ [] → IsFilteredText Ascending D f text new.text.items
text_sorted D f text old new utf8 (v, meaning, (u, w, put)) mode form first none =
    let (s, whole, meant) = meaning.by_default in
    let writes : writes_value_in D f (sorted v) ≡ Ok u =
    ap (λ E. writes_value_in E f (sorted v)) (sym mode) ∙ ap (λ g. writes_value_in old.doubles g (sorted v)) (sym form) ∙ w in
    let compact : new.text.items ≡ tree_text D f u =
    put.4 ∙ ap (λ l. l ++ (comma_if old.needs_comma ++ text_of u)) none
    ∙ ap (λ b. comma_if b ++ text_of u) first
    ∙ sym (text_is D f u (has_no_float D f (sorted v) u writes)) in (
      sorted v,
      meant_by_default D text v utf8 meaning,
      sorted_text D f (sorted v) u new.text.items compact (canon_from_in D f (sorted v) u writes)
          (in_range_in D meant.means (read_tree text s whole)),
    )
