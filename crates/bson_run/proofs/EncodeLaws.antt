-- The bytes of the document that a text denotes are unique, and each meaning has bytes or none of them has.
use Rattle.std.proofs.Common.{◌≡◌, ℕ, List, Some, sym, ap, ◌∙◌, subst, rules}
use Rattle.bson.specs.TextMeaning.{HasTextMeaningInKeyOrder, TextMeansInKeyOrder}
use Rattle.bson.specs.View.{bson_view, document_view}
use Rattle.bson.specs.declared.bson.Bson.{the_lemmas}
use Rattle.bson.specs.declared.bson.Bson.TheVariants.{Document as rejected_text}
use Rattle.bson.specs.declared.document.Document.{Document}
use Rattle.bson_model.specs.declared.options.KeyOrder.{KeyOrder}
use Rattle.bson_model.specs.declared.options.KeyOrder.TheVariants.{Ascending, AsGiven}
use Rattle.bson_model.proofs.Offered.{tree_one}
use Rattle.bson_codec.specs.Canonical.{NoBytesCause, document_bytes}
use Rattle.bson_model.specs.Means.{MeansIn}
use Rattle.bson_model.specs.Value.{Value, Pairs, document}
use Rattle.bson_model.specs.OrderedTrees.{read_in_order}
use Rattle.bson_model.specs.OrderedMeans.{MeansInOrder}
use Rattle.bson_convert.specs.Convert.{IsRejectedIn}
use Rattle.bson_run.specs.Encode.{Encodes, IsUnencodableFor, IsBytesOf, IsEncodeErrorBy, IsEncodeErrorFor}
use Rattle.bson_run.specs.LinesSteps.{Options, Error, CannotRead, NotJson, NotExtendedJson, NoBytes, OutOfMemory}
use Rattle.bson_run.specs.LinesSteps.{CannotWrite, NotCanonical}
use Rattle.bson_convert.specs.declared.encode_error.NoBytes.TheVariants.{NoDocument, ZeroInKey, ZeroInRegex, TooLong}

-- ---- a value

-- a document as a value is seen as the pairs of the document
pub document_seen : (d : Document) → bson_view (rejected_text d) ≡ document (document_view d)
document_seen d = search (rules, the_lemmas)

pub same_pairs : {ps qs : Pairs} → document ps ≡ document qs → ps ≡ qs
same_pairs h = cc

-- ---- by a meaning

module _ (P : Value → Type 0) (value : Value) (h : P value) where
  by_value : (v : Value) → v ≡ value → P v
  by_value v is = subst P (sym is) h

  -- the bytes of the value that is meant
  bytes_by : (out : List ℕ) → IsBytesOf (λ v. v ≡ value) out → IsBytesOf P out
  bytes_by out b = record {
    pairs = b.pairs;
    meaning = by_value (document b.pairs) b.meaning;
    fits = b.fits;
    canonical = b.canonical;
    back = b.back;
  }

  fails_by : (cause : NoBytesCause) → IsUnencodableFor (λ v. v ≡ value) cause → IsUnencodableFor P cause
  fails_by cause f = record { pairs = f.pairs; meaning = by_value (document f.pairs) f.meaning; fails = f.fails }

  unencoded_by : (fault : Error) → IsEncodeErrorFor (λ v. v ≡ value) fault → IsEncodeErrorFor P fault
  unencoded_by CannotRead f = f
  unencoded_by NotJson f = f
  unencoded_by (NotExtendedJson place) f = f
  unencoded_by (NoBytes NoDocument) f = record { value = f.value; meaning = by_value f.value f.meaning; other = f.other }
  unencoded_by (NoBytes ZeroInKey) f = fails_by _ f
  unencoded_by (NoBytes ZeroInRegex) f = fails_by _ f
  unencoded_by (NoBytes TooLong) f = fails_by _ f
  unencoded_by (NotCanonical column) f = absurd f
  unencoded_by OutOfMemory f = tt
  unencoded_by CannotWrite f = f

-- ---- a text

-- a text means one value, its keys in the order
pub value_one : (k : KeyOrder) (o : Options) (text : List ℕ) (v w : Value) → HasTextMeaningInKeyOrder k o.doubles text v
    → HasTextMeaningInKeyOrder k o.doubles text w → v ≡ w
value_one Ascending o text v w h m =
    m.meaning.one v (subst (λ t. MeansIn o.doubles t v) (tree_one text h.tree m.tree h.text m.text) h.meaning.means)
value_one AsGiven o text v w h m =
    let a : read_in_order text ≡ Some h.1.tree = h.1.tree_read in
    let b : read_in_order text ≡ Some m.1.tree = m.1.tree_read in
    let same : h.1.tree ≡ m.1.tree = cc in
    m.1.one v (subst (λ t. MeansInOrder o.doubles t v) same h.1.means)

-- the pairs that a text means are those that were read
pub is_meant : (k : KeyOrder) (o : Options) (text : List ℕ) (ps : Pairs) (value : Value)
    → TextMeansInKeyOrder k o.doubles text (document ps) → HasTextMeaningInKeyOrder k o.doubles text value → value ≡ document ps
is_meant Ascending o text ps value m h =
    sym (h.meaning.one (document ps)
    (subst (λ d. MeansIn o.doubles d (document ps)) (tree_one text m.0 h.tree m.1 h.text) m.2))
is_meant AsGiven o text ps value m h =
    let a : read_in_order text ≡ Some h.1.tree = h.1.tree_read in
    let b : read_in_order text ≡ Some m.0 = m.2 in
    let same : m.0 ≡ h.1.tree = cc in
    sym (h.1.one (document ps) (subst (λ d. MeansInOrder o.doubles d (document ps)) same m.3))

module _ (k : KeyOrder) (o : Options) (text : List ℕ) where
  pub encoded : (value : Value) (out : List ℕ) → HasTextMeaningInKeyOrder k o.doubles text value
      → IsBytesOf (λ v. v ≡ value) out → Encodes k o text out
  encoded value out h b = bytes_by (HasTextMeaningInKeyOrder k o.doubles text) value h out b

  pub encoded_one : (out other : List ℕ) → Encodes k o text out → Encodes k o text other → other ≡ out
  encoded_one out other x y =
      let same : document y.pairs ≡ document x.pairs =
      value_one k o text (document y.pairs) (document x.pairs) y.meaning x.meaning in
      y.canonical ∙ ap document_bytes (same_pairs same) ∙ sym x.canonical

  -- ---- what gives no bytes

  diagnostics_before : (fault : Error) → IsEncodeErrorFor (HasTextMeaningInKeyOrder k o.doubles text) fault → IsEncodeErrorBy k o fault text
  diagnostics_before CannotRead f = f
  diagnostics_before NotJson f = absurd f
  diagnostics_before (NotExtendedJson place) f = absurd f
  diagnostics_before (NoBytes why) f = f
  diagnostics_before (NotCanonical column) f = f
  diagnostics_before OutOfMemory f = tt
  diagnostics_before CannotWrite f = f

  pub unencoded : (value : Value) (fault : Error) → HasTextMeaningInKeyOrder k o.doubles text value
      → IsEncodeErrorFor (λ v. v ≡ value) fault → IsEncodeErrorBy k o fault text
  unencoded value fault h f = diagnostics_before fault (unencoded_by (HasTextMeaningInKeyOrder k o.doubles text) value h fault f)

  -- a text that means nothing
  pub unread : (fault : Error) → IsRejectedIn o fault text → IsEncodeErrorBy k o fault text
  unread CannotRead f = f
  unread NotJson f = f
  unread (NotExtendedJson place) f = f
  unread (NoBytes why) f = absurd f
  unread (NotCanonical column) f = f
  unread OutOfMemory f = f
  unread CannotWrite f = f
