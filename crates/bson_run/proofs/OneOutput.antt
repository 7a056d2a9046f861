-- The output of a text is unique, and a text without bytes has one cause for that.
use Rattle.std.proofs.Common.{◌≡◌, ◌⊎◌, inl, inr, ℕ, List, ◌++◌, Some, None, refl, ap, sym, ◌∙◌, subst}
use Rattle.std.proofs.lemmas.List.{append_cancel_right}
use Rattle.std.specs.Prelude.{IsUtf8}
use Rattle.serde_json.specs.Read.{read}
use Rattle.bson_model.proofs.Offered.{tree_one}
use Rattle.bson.specs.TextMeaning.{HasTextMeaningInKeyOrder, HasTextMeaningIn, IsNotJsonText}
use Rattle.bson_model.specs.declared.options.KeyOrder.{KeyOrder}
use Rattle.bson_model.specs.declared.options.KeyOrder.TheVariants.{Ascending, AsGiven}
use Rattle.bson_model.specs.declared.options.Options.{Options}
use Rattle.bson_codec.specs.Canonical.{NoBytesCause, nul_in_key, nul_in_regex, too_long, DocumentDoesNotFit, FitsDocument}
use Rattle.bson_model.specs.Means.{MeansIn}
use Rattle.bson_model.specs.Sorted.{sorted}
use Rattle.bson_model.specs.Value.{Pairs, Value, document}
use Rattle.bson_model.specs.OrderedTexts.{HasMeaningInOrder}
use Rattle.bson_tree.proofs.Offered.{one_path}
use Rattle.bson_tree.specs.Place.{FaultAtIn, path_of}
use Rattle.bson_tree.specs.declared.place.Place.{Place}
use Rattle.bson_scalar.specs.TreeText.{tree_text}
use Rattle.bson_scalar.specs.Forms.{form_in}
use Rattle.bson_scalar.specs.declared.form.Form.TheVariants as form
use Rattle.bson_convert.specs.Convert.{ConvertsIn, IsAccepted, IsOutputIn, IsRejectedIn, newline}
use Rattle.bson_convert.proofs.Offered.{no_difference, one_difference}
use Rattle.bson_convert.specs.Difference.{IsFirstDifferenceAt}
use Rattle.bson_convert.specs.declared.error.Error.TheVariants.{NotCanonical, NotExtendedJson, NoBytes}
use Rattle.bson_convert.specs.declared.mode.Mode.{Mode}
use Rattle.bson_convert.specs.declared.mode.Mode.TheVariants.{Canonical, Relaxed, Show}
use Rattle.bson_convert.specs.declared.encode_error.NoBytes as without
use Rattle.bson_convert.specs.declared.encode_error.NoBytes.TheVariants.{NoDocument, ZeroInKey, ZeroInRegex, TooLong}
use Rattle.bson_run.proofs.EncodeLaws.{encoded_one, same_pairs, value_one}
use Rattle.bson_run.specs.Encode.{IsUnencodableFor, HasNoBsonBytes, IsBytesOf, IsNoDocument}
use Rattle.bson_convert.specs.InOrder.{ConvertsBy, ConvertsInOrder, IsOutputInOrder}
use Rattle.bson_run.specs.Lines.{CriterionAccepts, HasNoOutputFor, WritesOutput}
use Rattle.bson_run.specs.declared.task.Criterion.{Criterion}
use Rattle.bson_run.specs.declared.task.Criterion.TheVariants as criterion
use Rattle.bson_run.specs.declared.task.Criterion.TheVariants.{Valid}
use Rattle.bson_run.specs.declared.task.Output.{Output}
use Rattle.bson_run.specs.declared.task.Output.TheVariants.{Text, Bytes, Nothing}

-- ---- causes

abbrev pub of_cause : NoBytesCause → without.NoBytes
of_cause nul_in_key = ZeroInKey
of_cause nul_in_regex = ZeroInRegex
of_cause too_long = TooLong

abbrev pub Fails : (Value → Type 0) → without.NoBytes → Type 0
Fails P why = ((why ≡ NoDocument) × IsNoDocument P)
    ⊎ ((cause : NoBytesCause) × (why ≡ of_cause cause) × IsUnencodableFor P cause)

pub fails_of : (P : Value → Type 0) (why : without.NoBytes) → HasNoBsonBytes P why → Fails P why
fails_of P NoDocument h = inl (refl, h)
fails_of P ZeroInKey h = inr (nul_in_key, refl, h)
fails_of P ZeroInRegex h = inr (nul_in_regex, refl, h)
fails_of P TooLong h = inr (too_long, refl, h)

module _ (P : Value → Type 0) (one : (v w : Value) → P v → P w → v ≡ w)
    (no_cause : (ps : Pairs) (c : NoBytesCause) → FitsDocument ps → DocumentDoesNotFit c ps → ⊥)
    (one_cause : (ps : Pairs) (c e : NoBytesCause) → DocumentDoesNotFit c ps → DocumentDoesNotFit e ps → c ≡ e) where
  pairs_one : (ps qs : Pairs) → P (document ps) → P (document qs) → ps ≡ qs
  pairs_one ps qs x y = same_pairs (one (document ps) (document qs) x y)

  pub same_cause : (why other : without.NoBytes) → Fails P why → Fails P other → why ≡ other
  same_cause why other (inl (e, n)) (inl (g, m)) = e ∙ sym g
  same_cause why other (inl (e, n)) (inr (c, g, f)) =
      absurd (n.other f.pairs (one n.value (document f.pairs) n.meaning f.meaning))
  same_cause why other (inr (c, e, f)) (inl (g, n)) =
      absurd (n.other f.pairs (one n.value (document f.pairs) n.meaning f.meaning))
  same_cause why other (inr (c, e, f)) (inr (d, g, k)) =
      let pairs : k.pairs ≡ f.pairs = pairs_one k.pairs f.pairs k.meaning f.meaning in
      let causes : c ≡ d = one_cause f.pairs c d f.fails (subst (DocumentDoesNotFit d) pairs k.fails) in
      e ∙ ap of_cause causes ∙ sym g

  pub has_bytes : (why : without.NoBytes) (bytes : List ℕ) → IsBytesOf P bytes → Fails P why → ⊥
  has_bytes why bytes b (inl (e, n)) = n.other b.pairs (one n.value (document b.pairs) n.meaning b.meaning)
  has_bytes why bytes b (inr (c, e, f)) =
      let pairs : f.pairs ≡ b.pairs = pairs_one f.pairs b.pairs f.meaning b.meaning in
      no_cause b.pairs c b.fits (subst (DocumentDoesNotFit c) pairs f.fails)

-- ---- what a text means

module _ (o : Options) where
  by_default : (text : List ℕ) (v : Value) → IsUtf8 text → HasMeaningInOrder o.doubles text v → IsAccepted o text
  by_default text v utf8 m =
      (m.by_default.0, sorted v, record { utf8 = utf8; tree_read = m.by_default.1 }, m.by_default.2.means)

  meant : (k : KeyOrder) (text : List ℕ) (v : Value) → HasTextMeaningInKeyOrder k o.doubles text v → IsAccepted o text
  meant Ascending text v m = (m.tree, v, m.text, m.meaning.means)
  meant AsGiven text v m = by_default text v m.0 m.1

  converts : (mode : Mode) (text out : List ℕ) → ConvertsIn o mode text out → IsAccepted o text
  converts mode text out x = (x.tree, x.value, x.text, x.meaning.means)

  converts_by : (k : KeyOrder) (mode : Mode) (text out : List ℕ) → ConvertsBy k o mode text out → IsAccepted o text
  converts_by Ascending mode text out x = converts mode text out x
  converts_by AsGiven mode text out x = by_default text x.value x.utf8 x.meaning

  checks : (it : Criterion) (text : List ℕ) → CriterionAccepts o it text → IsAccepted o text
  checks Valid text x = x
  checks criterion.Canonical text x = converts Canonical text (text ++ newline) x

  -- what is written of a text means something
  pub written_accepted : (it : Output) (text out : List ℕ) → WritesOutput o it text out → IsAccepted o text
  written_accepted (Text mode) text out x = converts_by o.key_order mode text out x
  written_accepted Bytes text out x = meant o.key_order text (document x.pairs) x.meaning
  written_accepted (Nothing criterion) text out x = checks criterion text x.0

  pub no_text : (text : List ℕ) → IsAccepted o text → IsNotJsonText text → ⊥
  no_text text (t, v, is, m) h =
      let none : read text ≡ None = h is.utf8 in let some : read text ≡ Some t = is.tree_read in cc

  pub no_fault : (text : List ℕ) (place : Place) → IsAccepted o text → IsRejectedIn o (NotExtendedJson place) text → ⊥
  no_fault text place (t, v, is, m) h =
      h.2.nothing v (subst (λ u. MeansIn o.doubles u v) (tree_one text t h.0 is h.1) m)

  pub fault_text : (text : List ℕ) (place : Place) → IsRejectedIn o (NotExtendedJson place) text → IsNotJsonText text → ⊥
  fault_text text place (t, is, first) h =
      let none : read text ≡ None = h is.utf8 in let some : read text ≡ Some t = is.tree_read in cc

  pub same_path : (text : List ℕ) (place other : Place) → IsRejectedIn o (NotExtendedJson place) text
      → IsRejectedIn o (NotExtendedJson other) text → path_of place ≡ path_of other
  same_path text place other (t, is, x) (u, also, y) =
      let trees : u ≡ t = tree_one text u t also is in
      one_path o.doubles x.path (subst (λ d. FaultAtIn o.doubles y.fault d (path_of other)) trees y.path)

  -- ---- what is written

  one_output : (mode : Mode) (v : Value) (a b : List ℕ) → IsOutputIn o mode v a → IsOutputIn o mode v b → a ≡ b
  one_output Canonical v a b x y =
      x.line.text
      ∙ ap (λ t. tree_text o.doubles (form_in o.layout form.Canonical) t ++ newline) (y.is_tree.one x.tree x.is_tree.written)
      ∙ sym y.line.text
  one_output Relaxed v a b x y =
      x.line.text ∙ ap (λ t. tree_text o.doubles (form_in o.layout form.Relaxed) t ++ newline) (y.is_tree.one x.tree x.is_tree.written)
      ∙ sym y.line.text
  one_output Show v a b x y = x ∙ sym y

  one_converted : (mode : Mode) (text a b : List ℕ) → ConvertsIn o mode text a → ConvertsIn o mode text b → a ≡ b
  one_converted mode text a b x y =
      let mine : HasTextMeaningIn o.doubles text x.value =
      record { tree = x.tree; text = x.text; meaning = x.meaning } in
      let other : HasTextMeaningIn o.doubles text y.value =
      record { tree = y.tree; text = y.text; meaning = y.meaning } in
      one_output mode x.value a b x.is_output
      (subst (λ v. IsOutputIn o mode v b) (value_one Ascending o text y.value x.value other mine) y.is_output)

  one_output_in_order : (mode : Mode) (v : Value) (a b : List ℕ) → IsOutputInOrder o mode v a
      → IsOutputInOrder o mode v b → a ≡ b
  one_output_in_order Canonical v a b x y =
      let trees = y.is_text.only_tree x.is_text.tree x.is_text.written in
      let texts : x.text ≡ y.text =
      x.is_text.compact ∙ ap (tree_text o.doubles (form_in o.layout form.Canonical)) trees ∙ sym y.is_text.compact in
      x.line ∙ ap (λ t. t ++ newline) texts ∙ sym y.line
  one_output_in_order Relaxed v a b x y =
      let trees = y.is_text.only_tree x.is_text.tree x.is_text.written in
      let texts : x.text ≡ y.text =
      x.is_text.compact ∙ ap (tree_text o.doubles (form_in o.layout form.Relaxed)) trees ∙ sym y.is_text.compact in
      x.line ∙ ap (λ t. t ++ newline) texts ∙ sym y.line
  one_output_in_order Show v a b x y = x ∙ sym y

  one_in_order : (mode : Mode) (text a b : List ℕ) → ConvertsInOrder o mode text a → ConvertsInOrder o mode text b
      → a ≡ b
  one_in_order mode text a b x y =
      one_output_in_order mode x.value a b x.is_output
      (subst (λ v. IsOutputInOrder o mode v b)
      (value_one AsGiven o text y.value x.value (y.utf8, y.meaning) (x.utf8, x.meaning)) y.is_output)

  one_by : (k : KeyOrder) (mode : Mode) (text a b : List ℕ) → ConvertsBy k o mode text a → ConvertsBy k o mode text b
      → a ≡ b
  one_by Ascending mode text a b x y = one_converted mode text a b x y
  one_by AsGiven mode text a b x y = one_in_order mode text a b x y

  pub one_written : (it : Output) (text a b : List ℕ) → WritesOutput o it text a → WritesOutput o it text b → a ≡ b
  one_written (Text mode) text a b x y = one_by o.key_order mode text a b x y
  one_written Bytes text a b x y = encoded_one o.key_order o text b a y x
  one_written (Nothing criterion) text a b x y = x.1 ∙ sym y.1

  -- ---- what has no bytes

  fails_meant : (k : KeyOrder) (text : List ℕ) (why : without.NoBytes) → Fails (HasTextMeaningInKeyOrder k o.doubles text) why
      → IsAccepted o text
  fails_meant k text why (inl (e, n)) = meant k text n.value n.meaning
  fails_meant k text why (inr (c, e, f)) = meant k text (document f.pairs) f.meaning

  pub bare_accepted : (it : Output) (why : without.NoBytes) (text : List ℕ) → HasNoOutputFor o (NoBytes why) it text
      → IsAccepted o text
  bare_accepted (Text mode) why text h = absurd h
  bare_accepted Bytes why text h =
      fails_meant o.key_order text why (fails_of (HasTextMeaningInKeyOrder o.key_order o.doubles text) why h)
  bare_accepted (Nothing criterion) why text h = absurd h

  -- ---- what is not canonical

  pub uncanonical_accepted : (it : Output) (column : ℕ) (text : List ℕ) → HasNoOutputFor o (NotCanonical column) it text
      → IsAccepted o text
  uncanonical_accepted (Text mode) column text h = absurd h
  uncanonical_accepted Bytes column text h = absurd h
  uncanonical_accepted (Nothing Valid) column text h = absurd h
  uncanonical_accepted (Nothing criterion.Canonical) column text h = converts Canonical text (h.text ++ newline) h.converts

  pub uncanonical_bare : (it : Output) (column : ℕ) (why : without.NoBytes) (text : List ℕ)
      → HasNoOutputFor o (NotCanonical column) it text → HasNoOutputFor o (NoBytes why) it text → ⊥
  uncanonical_bare (Text mode) column why text h x = h
  uncanonical_bare Bytes column why text h x = h
  uncanonical_bare (Nothing criterion) column why text h x = x

  pub uncanonical_written : (it : Output) (column : ℕ) (text a : List ℕ) → HasNoOutputFor o (NotCanonical column) it text
      → WritesOutput o it text a → ⊥
  uncanonical_written (Text mode) column text a h x = h
  uncanonical_written Bytes column text a h x = h
  uncanonical_written (Nothing Valid) column text a h x = h
  uncanonical_written (Nothing criterion.Canonical) column text a h x =
      let ended = one_converted Canonical text (h.text ++ newline) (text ++ newline) h.converts x.0 in
      no_difference column text h.text h.differ (sym (append_cancel_right h.text text newline ended))

  pub one_column : (it : Output) (column other : ℕ) (text : List ℕ) → HasNoOutputFor o (NotCanonical column) it text
      → HasNoOutputFor o (NotCanonical other) it text → column ≡ other
  one_column (Text mode) column other text x y = absurd x
  one_column Bytes column other text x y = absurd x
  one_column (Nothing Valid) column other text x y = absurd x
  one_column (Nothing criterion.Canonical) column other text x y =
      let ended = one_converted Canonical text (y.text ++ newline) (x.text ++ newline) y.converts x.converts in
      let same : y.text ≡ x.text = append_cancel_right y.text x.text newline ended in
      one_difference column other text x.text x.differ (subst (IsFirstDifferenceAt other text) same y.differ)
