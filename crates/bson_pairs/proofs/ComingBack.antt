-- A document comes back from its canonical text in order, and from its bytes.
use Rattle.std.proofs.Common.{◌≡◌, ℕ, suc, List, Some, refl, sym, ap, ap₂, subst, ◌∙◌}
use Rattle.bson_scalar.specs.TreeText.{tree_text}
use Rattle.bson.specs.Doubles.{Doubles}
use Rattle.bson.specs.Doubles.TheVariants.{Finite}
use Rattle.bson.specs.Form.{Form}
use Rattle.bson.specs.Form.TheVariants.{Canonical}
use Rattle.bson.specs.OrderedTrees.{read_in_order}
use Rattle.bson.specs.MeansInOrder.{MeansInOrder}
use Rattle.bson.specs.Normal.{map_scalars, map_scalars_of_items, map_scalars_of_pairs}
use Rattle.bson.specs.OrderedTexts.{HasMeaningInOrder}
use Rattle.bson.specs.Scalar.{Scalar, null, undefined, min_key, max_key, boolean, double, int32, int64, text, symbol}
use Rattle.bson.specs.Scalar.{code, regex, timestamp, binary, object_id, date, decimal, db_pointer}
use Rattle.bson.specs.Texts.{IsTextInOrder}
use Rattle.bson.specs.Value.{Value, scalar, code_scope, array, document, Values, no_values, value, Pairs, no_pairs, pair}
use Rattle.bson.specs.WrittenInOrder.{WrittenInOrder}
use Rattle.bson.specs.KeyOrder.TheVariants.{AsGiven}
use Rattle.bson_codec.specs.Canonical.{PairsNestUpTo, pairs_read_back, with_written_subtype, document_bytes}
use Rattle.bson_codec.specs.ReadDocuments.{IsReadAsDocument}
use Rattle.bson_run.specs.Encode.{Encodes}
use Rattle.bson_scalar.specs.Normal.{normal_scalar}
use Rattle.bson_pairs.specs.RoundTrip.{RoundTrips, NestsAtMost, round_trip_options}

-- ---- what is in normal form has the subtypes that its bytes name

scalar_again : (x : Scalar) → normal_scalar x ≡ x → with_written_subtype x ≡ x
scalar_again null h = refl
scalar_again undefined h = refl
scalar_again min_key h = refl
scalar_again max_key h = refl
scalar_again (boolean b) h = refl
scalar_again (double p) h = refl
scalar_again (int32 z) h = refl
scalar_again (int64 z) h = refl
scalar_again (text s) h = refl
scalar_again (symbol s) h = refl
scalar_again (code s) h = refl
scalar_again (regex p o) h = refl
scalar_again (timestamp t i) h = refl
scalar_again (binary k s) h = h
scalar_again (object_id id) h = refl
scalar_again (date z) h = refl
scalar_again (decimal b) h = refl
scalar_again (db_pointer s id) h = refl

mutual
  value_again : (v : Value) → map_scalars normal_scalar v ≡ v → map_scalars with_written_subtype v ≡ v
  value_again (scalar x) h = ap scalar (scalar_again x cc)
  value_again (code_scope s ps) h = ap (code_scope s) (pairs_again ps cc)
  value_again (array vs) h = ap array (items_again vs cc)
  value_again (document ps) h = ap document (pairs_again ps cc)

  items_again : (vs : Values) → map_scalars_of_items normal_scalar vs ≡ vs → map_scalars_of_items with_written_subtype vs ≡ vs
  items_again no_values h = refl
  items_again (value v vs) h = ap₂ value (value_again v cc) (items_again vs cc)

  pairs_again : (ps : Pairs) → map_scalars_of_pairs normal_scalar ps ≡ ps → map_scalars_of_pairs with_written_subtype ps ≡ ps
  pairs_again no_pairs h = refl
  pairs_again (pair k v ps) h = ap₂ (pair k) (value_again v cc) (pairs_again ps cc)

written_again : (ps : Pairs) → RoundTrips ps → pairs_read_back ps ≡ ps
written_again ps back =
    let h : document (map_scalars_of_pairs normal_scalar ps) ≡ document ps = back.is_normal in
    pairs_again ps cc

-- ---- texts

-- a value has one text in its own order
pub text_one : (D : Doubles) (f : Form) (v : Value) (s t : List ℕ) → IsTextInOrder D f v s → IsTextInOrder D f v t
    → s ≡ t
text_one D f v s t a b = a.compact ∙ ap (tree_text D f) (b.only_tree a.tree a.written) ∙ sym b.compact

module _ (ps : Pairs) (text : List ℕ) (is : IsTextInOrder Finite Canonical (document ps) text) (back : RoundTrips ps) where
  -- the text is read as its tree again
  pub read_again : read_in_order text ≡ Some is.tree
  read_again =
      let of = is.ordered back.is_plain in
      ap read_in_order is.compact
      ∙ of.own_text.in_order
      (back.is_shallow is.tree (subst (λ v. WrittenInOrder Finite Canonical v is.tree) back.is_normal of.written))

  -- which means the document
  pub means_again : MeansInOrder Finite is.tree (document ps)
  means_again = subst (MeansInOrder Finite is.tree) back.is_normal (is.ordered back.is_plain).means

  -- and no other
  meant : (qs : Pairs) → HasMeaningInOrder Finite text (document qs) → qs ≡ ps
  meant qs h =
      let a = read_again in
      let b : read_in_order text ≡ Some h.tree = h.tree_read in
      let same : is.tree ≡ h.tree = cc in
      let one : document ps ≡ document qs =
      h.one (document ps) (subst (λ d. MeansInOrder Finite d (document ps)) same means_again) in
      cc

  -- ---- bytes

  -- the bytes that the text is encoded as are those of the document
  pub encoded_again : (out : List ℕ) → Encodes AsGiven round_trip_options text out → out ≡ document_bytes ps
  encoded_again out e = e.canonical ∙ ap document_bytes (meant e.pairs e.meaning.1)

  -- and they are read as it
  pub decoded_again : (out : List ℕ) (depth : ℕ) → Encodes AsGiven round_trip_options text out → NestsAtMost depth ps
      → IsReadAsDocument depth out ps
  decoded_again out depth e nests =
      let same = meant e.pairs e.meaning.1 in
      let deep : PairsNestUpTo e.pairs nests.0 = subst (λ qs. PairsNestUpTo qs nests.0) (sym same) nests.2 in
      let read : IsReadAsDocument (suc nests.0) out (pairs_read_back e.pairs) = e.back nests.0 deep in
      subst (λ n. IsReadAsDocument n out ps) (sym nests.1)
      (subst (IsReadAsDocument (suc nests.0) out) (ap pairs_read_back same ∙ written_again ps back) read)
