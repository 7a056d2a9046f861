-- Tokens that a writer of a text writes one after another.
use Rattle.std.proofs.Common.{◌≡◌, ℕ, ◌+◌, List, [], ◌∷◌, ◌++◌, Ok, refl, sym, ap, ◌∙◌, subst, append_assoc}
use Rattle.std.specs.Prelude.{IsUtf8}
use Rattle.std.specs.declared.alloc.Global.{Global}
use Rattle.json.specs.Print.{print}
use Rattle.json.specs.Token as token
use Rattle.json.specs.Token.{Token}
use Rattle.json.specs.declared.Writer.{Writer}
use Rattle.json.specs.Tree.{items_tokens, members_tokens}
use Rattle.serde_json.specs.Data.{Items, no_items, item, Members, no_members, member, array, object}
use Rattle.bson_scalar.specs.Tokens.{tokens_of, code_tokens}
use Rattle.bson_scalar.specs.TreeText.{json_of_items, json_of_members, tree_text}
use Rattle.bson_scalar.specs.declared.form.Doubles.{Doubles}
use Rattle.bson_scalar.specs.declared.form.Form.{Form}
use Rattle.bson_scalar.proofs.Offered.{text_is}
use Rattle.bson_model.specs.Value as model
use Rattle.bson_model.specs.Writing.{with_scope}
use Rattle.bson_model.specs.Value.{Value, Values, no_values, Pairs, no_pairs, pair, code_scope, document}
use Rattle.bson_model.specs.OrderedTexts.{HasMeaningInOrder}
use Rattle.bson_model.specs.declared.options.KeyOrder.TheVariants.{AsGiven}
use Rattle.bson_model.specs.OrderedWriting.{writes_value_in_order, writes_items_in_order, writes_pairs_in_order}
use Rattle.bson_model.proofs.OfferedInOrder.{has_no_float, text_in_order, written_from}
use Rattle.bson_text.specs.OutputTexts.{IsFilteredText}
use Rattle.bson_text.specs.TextOutput.{HasTokensAdded, HasValueTokens, HasPairTokens}
use Rattle.bson_text.specs.TraversalResults.{ItemsWritten, PairsWritten}
use Rattle.bson_text.specs.declared.text_writer.TextWriter.{TextWriter}

abbrev pub with_out : TextWriter → Writer Global → TextWriter
with_out w json_writer = record { alloc = w.alloc; doubles = w.doubles; form = w.form; json_writer = json_writer }

-- tokens and then others
joined : (a b c : TextWriter) (xs ys : List Token) → HasTokensAdded a xs b → HasTokensAdded b ys c → HasTokensAdded a (xs ++ ys) c
joined a b c xs ys (d, f, old, is) (e, g, older, more) =
    (e ∙ d, g ∙ f, older ∙ old, more ∙ ap (λ ts. ts ++ ys) is ∙ append_assoc a.json_writer.tokens xs ys)

-- what holds in the mode and form of a later state
at_first : (a b : TextWriter) (xs : List Token) (Holds : Doubles → Form → Type 0) → HasTokensAdded a xs b
    → Holds b.doubles b.form → Holds a.doubles a.form
at_first a b xs Holds (mode, form, old, is) h = subst (λ D. Holds D a.form) mode (subst (Holds b.doubles) form h)

-- ---- arrays

items_sent : (n : ℕ) (vs : Values) (old now new : TextWriter)
    → ItemsWritten (λ a k v b. HasValueTokens a v b) (λ i. []) n vs old now → HasTokensAdded now (token.end_array ∷ []) new
    → (us : Items) × (writes_items_in_order old.doubles old.form vs ≡ Ok us) × HasTokensAdded old (items_tokens (json_of_items us)) new
items_sent n no_values old now new is ended =
    (no_items, refl, subst (λ a. HasTokensAdded a (token.end_array ∷ []) new) (sym is) ended)
items_sent n (model.value v vs) old now new (mid, (u, w, sent), more) ended =
    let rest = items_sent (n + 1) vs mid now new more ended in (
      item u rest.0,
      rw (w, at_first old mid (tokens_of u) (λ D f. writes_items_in_order D f vs ≡ Ok rest.0) sent rest.1) refl,
      joined old mid new (tokens_of u) (items_tokens (json_of_items rest.0)) sent rest.2,
    )

pub array_sent : (vs : Values) (old mark now new : TextWriter) → HasTokensAdded old (token.begin_array ∷ []) mark
    → ItemsWritten (λ a k v b. HasValueTokens a v b) (λ i. []) 0 vs mark now → HasTokensAdded now (token.end_array ∷ []) new
    → HasValueTokens old (model.array vs) new
array_sent vs old mark now new begin written ended =
    let rest = items_sent 0 vs mark now new written ended in (
      array rest.0,
      rw (at_first old mark (token.begin_array ∷ []) (λ D f. writes_items_in_order D f vs ≡ Ok rest.0) begin rest.1) refl,
      joined old mark new (token.begin_array ∷ []) (items_tokens (json_of_items rest.0)) begin rest.2,
    )

-- ---- documents

pairs_sent : (ps : Pairs) (old now new : TextWriter)
    → PairsWritten (λ a k v b. HasValueTokens a v b) (λ a k b. HasTokensAdded a (token.key k ∷ []) b) ps old now
    → HasTokensAdded now (token.end_object ∷ []) new
    → (us : Members) × (writes_pairs_in_order old.doubles old.form ps ≡ Ok us) × HasTokensAdded old (members_tokens (json_of_members us)) new
pairs_sent no_pairs old now new is ended =
    (no_members, refl, subst (λ a. HasTokensAdded a (token.end_object ∷ []) new) (sym is) ended)
pairs_sent (pair k v ps) old now new (named, mid, key, (u, w, sent), more) ended =
    let rest = pairs_sent ps mid now new more ended in
    let both : HasTokensAdded old (token.key k ∷ tokens_of u) mid = joined old named mid (token.key k ∷ []) (tokens_of u) key sent in (
      member k u rest.0,
      rw (
        at_first old named (token.key k ∷ []) (λ D f. writes_value_in_order D f v ≡ Ok u) key w,
        at_first old mid (token.key k ∷ tokens_of u) (λ D f. writes_pairs_in_order D f ps ≡ Ok rest.0) both rest.1,
      ) refl,
      joined old mid new (token.key k ∷ tokens_of u) (members_tokens (json_of_members rest.0)) both rest.2,
    )

pub document_sent : (ps : Pairs) (old mark now new : TextWriter) → HasTokensAdded old (token.begin_object ∷ []) mark
    → PairsWritten (λ a k v b. HasValueTokens a v b) (λ a k b. HasTokensAdded a (token.key k ∷ []) b) ps mark now
    → HasTokensAdded now (token.end_object ∷ []) new → HasPairTokens old ps new
document_sent ps old mark now new begin written ended =
    let rest = pairs_sent ps mark now new written ended in (
      rest.0,
      at_first old mark (token.begin_object ∷ []) (λ D f. writes_pairs_in_order D f ps ≡ Ok rest.0) begin rest.1,
      joined old mark new (token.begin_object ∷ []) (members_tokens (json_of_members rest.0)) begin rest.2,
    )

pub embedded : (ps : Pairs) (old new : TextWriter) → HasPairTokens old ps new → HasValueTokens old (document ps) new
embedded ps old new (us, w, sent) = (object us, rw w refl, sent)

pub code_sent : (s : List ℕ) (ps : Pairs) (old mark now new : TextWriter) → HasTokensAdded old (code_tokens s) mark
    → HasPairTokens mark ps now → HasTokensAdded now (token.end_object ∷ []) new → HasValueTokens old (code_scope s ps) new
code_sent s ps old mark now new begin (us, w, sent) ended = (
  with_scope s us,
  rw (at_first old mark (code_tokens s) (λ D f. writes_pairs_in_order D f ps ≡ Ok us) begin w) refl,
  joined old mark new (code_tokens s) (tokens_of (object us) ++ token.end_object ∷ []) begin
      (joined mark now new (tokens_of (object us)) (token.end_object ∷ []) sent ended),
)

-- ---- a whole text

pub text_sent : (D : Doubles) (f : Form) (text written : List ℕ) (old new : TextWriter) → IsUtf8 text
    → (v : Value) × HasMeaningInOrder D text v × HasValueTokens old v new → old.doubles ≡ D → old.form ≡ f
    → old.json_writer.tokens ≡ [] → written ≡ print new.json_writer.tokens → IsFilteredText AsGiven D f text written
text_sent D f text written old new utf8 (v, meaning, (u, w, (d, g, before, is))) mode form none all =
    let writes : writes_value_in_order D f v ≡ Ok u =
    ap (λ e. writes_value_in_order e f v) (sym mode) ∙ ap (λ h. writes_value_in_order old.doubles h v) (sym form) ∙ w in
    let from = written_from D f v u writes in
    let compact : written ≡ tree_text D f u =
    all ∙ ap print (is ∙ ap (λ l. l ++ tokens_of u) none) ∙ sym (text_is D f u (has_no_float D f v u from)) in
    (v, (utf8, meaning), text_in_order D f v u written compact from meaning.within_type_range meaning.distinct)
