-- One text is read in the place of a text, and a blank text is none.
use Rattle.std.proofs.Common.{◌≡◌, ◌⊎◌, inl, inr, ℕ, List, [], ◌∷◌, Bool, true, false, Some, None, option_map, option_and_then, refl, ap, sym, ◌∙◌, subst}
use Rattle.std.proofs.lemmas.List.Elements.{All-head, All-tail}
use Rattle.std.specs.Prelude.{IsUtf8}
use Rattle.json.specs.Json as json
use Rattle.json.specs.Lex.{lex, between, fresh, punctuate}
use Rattle.json.specs.Print.{print}
use Rattle.json.specs.Strict.{HasUniqueKeys}
use Rattle.json.specs.Tree.{json_tokens}
use Rattle.serde_json.specs.Data.{Data, null, boolean, number, string, array, object, Items, no_items, item, Members}
use Rattle.serde_json.specs.Data.{no_members, put}
use Rattle.serde_json.specs.Read.{max_depth, of_json, of_items, of_members, read}
use Rattle.bson.specs.TextMeaning.{IsTextOf}
use Rattle.bson_tokens.specs.Normalized.{normalized, HasNumbersInRange, ItemsHaveNumbersInRange, MembersHaveNumbersInRange, IsNormalizedText}
use Rattle.bson_tokens.specs.DuplicateKeys.{DuplicateAt, json_of}
use Rattle.bson_model.specs.declared.options.DuplicateKeys.{DuplicateKeys}
use Rattle.bson_model.specs.declared.options.DuplicateKeys.TheVariants.{LastWins, Reject}
use Rattle.bson_model.specs.declared.options.KeyOrder.TheVariants.{AsGiven}
use Rattle.bson_v1.specs.BareWords.{with_words, with_words_from}
use Rattle.bson_v1.specs.Upgraded.{upgraded}
use Rattle.bson_v1.specs.Text.{IsUpgradedText}
use Rattle.bson_v1.specs.declared.bare_words.WordForm.TheVariants.{Wrapper}
use Rattle.bson_tree.specs.Place.{PathSegment, path_of}
use Rattle.bson_tree.specs.declared.place.Place.{Place}
use Rattle.bson_run.specs.Lines.{IsBlank}
use Rattle.bson_run.specs.Preprocessed.{HasAllowedKeys, HasDuplicateKeyAt, HasRejectedKeyAt, LacksDuplicateKey, IsInvalidJson}
use Rattle.bson_run.specs.Preprocessed.{IsPreprocessedAs, IsRejectedByPreprocessing, IsRewrittenAs, UpgradesTo, worded_text}
use Rattle.bson_run.specs.declared.task.Preprocessing.{Preprocessing}

-- ---- a JSON text each of whose numbers is in range is read

mutual
  tree_read : (j : json.Json) → HasNumbersInRange j → (d : Data) × (of_json j ≡ Some d)
  tree_read json.null h = (null, refl)
  tree_read (json.boolean b) h = (boolean b, refl)
  tree_read (json.number s) h = (number h.0, ap (option_map number) h.1)
  tree_read (json.string s) h = (string s, refl)
  tree_read (json.array js) h =
      let ds = items_read js h in
      (array ds.0, ap (option_map array) ds.1)
  tree_read (json.object ms) h =
      let ds = members_read ms no_members h in
      (object ds.0, ap (option_map object) ds.1)

  items_read : (js : json.Items) → ItemsHaveNumbersInRange js → (ds : Items) × (of_items js ≡ Some ds)
  items_read json.no_items h = (no_items, refl)
  items_read (json.item j js) h =
      let d = tree_read j h.0 in
      let ds = items_read js h.1 in (
        item d.0 ds.0,
        ap (option_and_then (λ x. option_map (item x) (of_items js))) d.1 ∙ ap (option_map (item d.0)) ds.1,
      )

  members_read : (ms : json.Members) (found : Members) → MembersHaveNumbersInRange ms
      → (ds : Members) × (of_members ms found ≡ Some ds)
  members_read json.no_members found h = (found, refl)
  members_read (json.member k j ms) found h =
      let d = tree_read j h.0 in
      let ds = members_read ms (put k d.0 found) h.1 in
      (ds.0, ap (option_and_then (λ x. of_members ms (put k x found))) d.1 ∙ ds.1)

pub is_read : (text written : List ℕ) → IsNormalizedText AsGiven text written → (d : Data) × (read text ≡ Some d)
is_read text written is =
    let d = tree_read is.tree is.numbers in
    (d.0, ap (option_and_then of_json) is.is_tree ∙ d.1)

-- ---- one text in the place of another

one_upgraded : (text a b : List ℕ) → IsUpgradedText text a → IsUpgradedText text b → a ≡ b
one_upgraded text a b x y =
    let i : json_of text ≡ Some x.text_is_normalized.tree = x.text_is_normalized.is_tree in
    let j : json_of text ≡ Some y.text_is_normalized.tree = y.text_is_normalized.is_tree in
    let trees : x.text_is_normalized.tree ≡ y.text_is_normalized.tree = cc in
    x.compact ∙ (ap (λ t. print (json_tokens (upgraded (normalized AsGiven t)))) trees ∙ sym y.compact)

not_json : (text a : List ℕ) → IsUtf8 text → IsUpgradedText text a → IsInvalidJson text → ⊥
not_json text a utf8 x none =
    let d = is_read text x.normalized_input x.text_is_normalized in
    none d.0 utf8 d.1

one_newer : (text bytes a b : List ℕ) → UpgradesTo text bytes a → UpgradesTo text bytes b → a ≡ b
one_newer text bytes a b (inl x) (inl y) = one_upgraded text a b x.1 y.1
one_newer text bytes a b (inl x) (inr y) = absurd (not_json text a x.0 x.1 y.0)
one_newer text bytes a b (inr x) (inl y) = absurd (not_json text b y.0 y.1 x.0)
one_newer text bytes a b (inr x) (inr y) = x.1 ∙ sym y.1

one_rewritten : (v1 : Bool) (text a b : List ℕ) → IsRewrittenAs v1 text a → IsRewrittenAs v1 text b → a ≡ b
one_rewritten true text a b x y = one_newer (worded_text true text) text a b x y
one_rewritten false text a b x y = x ∙ sym y

pub one_taken : (preprocessing : Preprocessing) (text a b : List ℕ) → IsPreprocessedAs preprocessing text a → IsPreprocessedAs preprocessing text b → a ≡ b
one_taken preprocessing text a b x y = one_rewritten preprocessing.v1 text a b x.1 y.1

-- ---- a blank text

passed : (x : ℕ) (xs : List ℕ) → (x ≡ 32) ⊎ ((x ≡ 9) ⊎ (x ≡ 13)) → lex between (x ∷ xs) ≡ lex between xs
unfolding lex
passed x xs (inl e) = ap (λ y. lex between (y ∷ xs)) e
passed x xs (inr (inl e)) = ap (λ y. lex between (y ∷ xs)) e
passed x xs (inr (inr e)) = ap (λ y. lex between (y ∷ xs)) e

no_lexeme : (text : List ℕ) → IsBlank text → lex between text ≡ lex between []
no_lexeme [] h = refl
no_lexeme (x ∷ xs) h =
    passed x xs (All-head (λ y. (y ≡ 32) ⊎ ((y ≡ 9) ⊎ (y ≡ 13))) x xs h)
    ∙ no_lexeme xs (All-tail (λ y. (y ≡ 32) ⊎ ((y ≡ 9) ⊎ (y ≡ 13))) x xs h)

nothing : json_of [] ≡ None
unfolding lex punctuate json.value
nothing = refl

blank_tree : (text : List ℕ) → IsBlank text → json_of text ≡ None
blank_tree text h =
    ap (λ ls. option_and_then (λ p. json.if_last p.0 p.1) (json.value max_depth (punctuate fresh ls))) (no_lexeme text h)
    ∙ nothing

pub blank_text : (text : List ℕ) (t : Data) → IsBlank text → IsTextOf text t → ⊥
blank_text text t h is =
    let none : read text ≡ None = ap (option_and_then of_json) (blank_tree text h) in
    let some : read text ≡ Some t = is.tree_read in
    cc

-- it has no words
blank_byte : (x : ℕ) (xs : List ℕ) → (x ≡ 32) ⊎ ((x ≡ 9) ⊎ (x ≡ 13))
    → with_words Wrapper (x ∷ xs) ≡ x ∷ with_words Wrapper xs
unfolding with_words_from
blank_byte x xs (inl e) = subst (λ y. with_words Wrapper (y ∷ xs) ≡ y ∷ with_words Wrapper xs) (sym e) refl
blank_byte x xs (inr (inl e)) = subst (λ y. with_words Wrapper (y ∷ xs) ≡ y ∷ with_words Wrapper xs) (sym e) refl
blank_byte x xs (inr (inr e)) = subst (λ y. with_words Wrapper (y ∷ xs) ≡ y ∷ with_words Wrapper xs) (sym e) refl

no_bytes : with_words Wrapper [] ≡ []
unfolding with_words_from
no_bytes = refl

no_word : (text : List ℕ) → IsBlank text → with_words Wrapper text ≡ text
no_word [] h = no_bytes
no_word (x ∷ xs) h =
    blank_byte x xs (All-head (λ y. (y ≡ 32) ⊎ ((y ≡ 9) ⊎ (y ≡ 13))) x xs h)
    ∙ ap (λ ys. x ∷ ys) (no_word xs (All-tail (λ y. (y ≡ 32) ⊎ ((y ≡ 9) ⊎ (y ≡ 13))) x xs h))

blank_worded : (v1 : Bool) (text : List ℕ) → IsBlank text → worded_text v1 text ≡ text
blank_worded true text h = no_word text h
blank_worded false text h = refl

stays : (text bytes a : List ℕ) → IsBlank text → UpgradesTo text bytes a → a ≡ bytes
stays text bytes a h (inl x) =
    let none : json_of text ≡ None = blank_tree text h in
    let some : json_of text ≡ Some x.1.text_is_normalized.tree = x.1.text_is_normalized.is_tree in
    absurd cc
stays text bytes a h (inr x) = x.1

blank_rewritten : (v1 : Bool) (text a : List ℕ) → IsBlank text → IsRewrittenAs v1 text a → a ≡ text
blank_rewritten true text a h x =
    stays text text a h (subst (λ ys. UpgradesTo ys text a) (no_word text h) x)
blank_rewritten false text a h x = x

-- it is read itself
pub blank_taken : (preprocessing : Preprocessing) (text a : List ℕ) → IsBlank text → IsPreprocessedAs preprocessing text a → a ≡ text
blank_taken preprocessing text a h x = blank_rewritten preprocessing.v1 text a h x.1

blank_double : (place : Place) (text : List ℕ) → IsBlank text → HasDuplicateKeyAt place text → ⊥
blank_double place text h x =
    let none : json_of text ≡ None = blank_tree text h in
    let some : json_of text ≡ Some x.1.0 = x.1.1 in
    cc

blank_key : (keys : DuplicateKeys) (place : Place) (text : List ℕ) → IsBlank text → HasRejectedKeyAt keys place text → ⊥
blank_key LastWins place text h x = x
blank_key Reject place text h x = blank_double place text h x

-- and not turned away
pub blank_turned : (preprocessing : Preprocessing) (place : Place) (text : List ℕ) → IsBlank text → IsRejectedByPreprocessing preprocessing place text → ⊥
blank_turned preprocessing place text h x =
    blank_key preprocessing.duplicate_keys place text h
    (subst (HasRejectedKeyAt preprocessing.duplicate_keys place) (blank_worded preprocessing.v1 text h) x)

-- ---- a text that is turned away

module _ (twice : (j : json.Json) (path : List PathSegment) → DuplicateAt j path → ¬ HasUniqueKeys j) where
  not_both : (place : Place) (text : List ℕ) → HasDuplicateKeyAt place text → LacksDuplicateKey text → ⊥
  not_both place text h none = twice h.1.0 (path_of place) h.1.2 (none h.1.0 h.0 h.1.1)

  not_allowed : (keys : DuplicateKeys) (place : Place) (text : List ℕ) → HasRejectedKeyAt keys place text
      → HasAllowedKeys keys text → ⊥
  not_allowed LastWins place text h is = h
  not_allowed Reject place text h is = not_both place text h is

  pub not_taken : (preprocessing : Preprocessing) (place : Place) (text a : List ℕ) → IsRejectedByPreprocessing preprocessing place text
      → IsPreprocessedAs preprocessing text a → ⊥
  not_taken preprocessing place text a h is =
      not_allowed preprocessing.duplicate_keys place (worded_text preprocessing.v1 text) h is.0

module _ (one_path : (j : json.Json) (path other : List PathSegment) → DuplicateAt j path → DuplicateAt j other → path ≡ other) where
  one_duplicate_path : (place other : Place) (text : List ℕ) → HasDuplicateKeyAt place text → HasDuplicateKeyAt other text
      → path_of place ≡ path_of other
  one_duplicate_path place other text x y =
      let a : json_of text ≡ Some x.1.0 = x.1.1 in
      let b : json_of text ≡ Some y.1.0 = y.1.1 in
      let same : y.1.0 ≡ x.1.0 = cc in
      one_path x.1.0 (path_of place) (path_of other) x.1.2 (subst (λ j. DuplicateAt j (path_of other)) same y.1.2)

  one_key : (keys : DuplicateKeys) (place other : Place) (text : List ℕ) → HasRejectedKeyAt keys place text
      → HasRejectedKeyAt keys other text → path_of place ≡ path_of other
  one_key LastWins place other text x y = absurd x
  one_key Reject place other text x y = one_duplicate_path place other text x y

  pub one_turned : (preprocessing : Preprocessing) (place other : Place) (text : List ℕ) → IsRejectedByPreprocessing preprocessing place text
      → IsRejectedByPreprocessing preprocessing other text → path_of place ≡ path_of other
  one_turned preprocessing place other text x y =
      one_key preprocessing.duplicate_keys place other (worded_text preprocessing.v1 text) x y
