-- What the status of a document says of its bytes, where they gave no text.
use Rattle.std.proofs.Common.{◌≡◌, ◌⊎◌, inl, inr, ℕ, List, Some, true, true≢false, refl, sym, ap, subst, ◌∙◌, arith, rules}
use Rattle.bson.specs.Doubles.{Doubles}
use Rattle.bson.specs.Doubles.TheVariants.{Special, Finite}
use Rattle.bson.specs.Form.{Form}
use Rattle.bson.specs.Form.TheVariants as form
use Rattle.bson_scalar.specs.Forms.{form_in}
use Rattle.bson.specs.Texts.{IsTextInKeyOrder, IsTextInOrder}
use Rattle.bson.specs.View.{bson_view, document_view}
use Rattle.bson.specs.declared.bson.Bson.{the_lemmas}
use Rattle.bson.specs.declared.bson.Bson.TheVariants.{Document as held}
use Rattle.bson.specs.declared.document.Document.{Document}
use Rattle.bson_model.specs.declared.options.Options.{Options}
use Rattle.bson_bytes.specs.ReadDocuments.{IsReadAsDocumentIn}
use Rattle.bson_codec.specs.DocumentText.{IsDocumentTextOf}
use Rattle.bson_model.specs.Normal.{writable_in}
use Rattle.bson_model.specs.Value.{Value, Pairs, document}
use Rattle.bson_convert.specs.declared.mode.Mode.{Mode}
use Rattle.bson_convert.specs.declared.mode.Mode.TheVariants.{Canonical, Relaxed, Show}
use Rattle.vbson.specs.Documents.{Decodes, PairsHaveNoTextIn, IsOneDocument, IsDecodeFailure, IsTextOfDocument, depth, streaming_form, streaming_form_in_order, form_of_mode}
use Rattle.bson_model.specs.declared.options.DuplicateKeys.{DuplicateKeys}
use Rattle.bson_model.specs.declared.options.DuplicateKeys.TheVariants.{LastWins, Reject}
use Rattle.bson_model.specs.declared.options.KeyOrder.{KeyOrder}
use Rattle.bson_model.specs.declared.options.KeyOrder.TheVariants.{Ascending, AsGiven}

-- ---- bytes

unwritable : (o : Options) (mode : Mode) (ps : Pairs) → PairsHaveNoTextIn o mode ps
    → writable_in o.doubles (document ps) ≡ true → ⊥
unwritable o Canonical ps none writes = true≢false (sym writes ∙ none)
unwritable o Relaxed ps none writes = true≢false (sym writes ∙ none)
unwritable o Show ps none writes = none

-- the one document that the bytes are has no text, or memory ran out
pub undecoded : (keys : DuplicateKeys) (o : Options) (mode : Mode) (status : ℕ) (bytes : List ℕ) (ps : Pairs)
    → IsReadAsDocumentIn keys depth bytes ps → ((qs : Pairs) → IsReadAsDocumentIn keys depth bytes qs → ps ≡ qs)
    → (status ≡ 5) ⊎ ((status ≡ 7) × PairsHaveNoTextIn o mode ps) → IsDecodeFailure keys o mode status bytes
undecoded keys o mode status bytes ps is one (inl five) = record {
  no_document = λ ten other. absurd (omega (arith, five, ten));
  no_text = λ seven. absurd (omega (arith, five, seven));
  accepts = λ qs also writes. five;
  possible_statuses = inl five;
}
undecoded keys o mode status bytes ps is one (inr (seven, none)) = record {
  no_document = λ ten other. absurd (omega (arith, seven, ten));
  no_text = λ s. (ps, is, none);
  accepts = λ qs also writes.
      absurd (unwritable o mode ps none (ap (λ xs. writable_in o.doubles (document xs)) (one qs also) ∙ writes));
  possible_statuses = inr (inl seven);
}

-- the bytes are no document
pub no_document : (keys : DuplicateKeys) (o : Options) (mode : Mode) (bytes : List ℕ) → (IsOneDocument keys bytes → ⊥)
    → IsDecodeFailure keys o mode 10 bytes
no_document keys o mode bytes none = record {
  no_document = λ ten is. none is;
  no_text = λ seven. absurd (omega (arith, seven));
  accepts = λ ps is writes. absurd (none (ps, is));
  possible_statuses = inr (inr refl);
}

-- memory ran out
pub no_memory : (keys : DuplicateKeys) (o : Options) (mode : Mode) (bytes : List ℕ) → IsDecodeFailure keys o mode 5 bytes
no_memory keys o mode bytes = record {
  no_document = λ ten is. absurd (omega (arith, ten));
  no_text = λ seven. absurd (omega (arith, seven));
  accepts = λ ps is writes. refl;
  possible_statuses = inl refl;
}

unread : (keys : DuplicateKeys) (o : Options) (mode : Mode) (status : ℕ) (bytes : List ℕ)
    → (status ≡ 5) ⊎ ((status ≡ 10) × (IsOneDocument keys bytes → ⊥)) → IsDecodeFailure keys o mode status bytes
unread keys o mode status bytes (inl five) =
    subst (λ n. IsDecodeFailure keys o mode n bytes) (sym five) (no_memory keys o mode bytes)
unread keys o mode status bytes (inr (ten, none)) =
    subst (λ n. IsDecodeFailure keys o mode n bytes) (sym ten) (no_document keys o mode bytes none)

-- a text is written while the bytes are read only if duplicate keys are allowed
pub unread_directly : (keys : DuplicateKeys) (o : Options) (mode : Mode) (f : Form) (status : ℕ) (bytes : List ℕ)
    → streaming_form keys o mode ≡ Some f → (status ≡ 5) ⊎ ((status ≡ 10) × (IsOneDocument LastWins bytes → ⊥))
    → IsDecodeFailure keys o mode status bytes
unread_directly Reject o mode f status bytes given h = absurd cc
unread_directly LastWins o mode f status bytes given h = unread LastWins o mode status bytes h

-- a text in the form of the mode is the document's
pub text_of_mode : (o : Options) (mode : Mode) (f : Form) (ps : Pairs) (text : List ℕ) → form_of_mode mode ≡ Some f
    → IsTextInKeyOrder o.key_order o.doubles (form_in o.layout f) (document ps) text → IsTextOfDocument o mode ps text
text_of_mode o Canonical f ps text is h =
    let same : f ≡ form.Canonical = cc in
    subst (λ g. IsTextInKeyOrder o.key_order o.doubles (form_in o.layout g) (document ps) text) same h
text_of_mode o Relaxed f ps text is h =
    let same : f ≡ form.Relaxed = cc in
    subst (λ g. IsTextInKeyOrder o.key_order o.doubles (form_in o.layout g) (document ps) text) same h
text_of_mode o Show f ps text is h = absurd cc

-- the text that is written while the bytes are read is that of the document
module _ (o : Options) (bytes text : List ℕ) (given : o.key_order ≡ AsGiven) (finite : o.doubles ≡ Finite) where
  under_options : (f : Form) (v : Value) → IsTextInOrder Finite f v text → IsTextInKeyOrder o.key_order o.doubles f v text
  under_options f v is =
      subst (λ k. IsTextInKeyOrder k o.doubles f v text) (sym given) (subst (λ D. IsTextInOrder D f v text) (sym finite) is)

  in_form : (mode : Mode) (f : Form) → form_of_mode mode ≡ Some f
      → IsDocumentTextOf (form_in o.layout f) depth bytes text → Decodes LastWins o mode bytes text
  in_form mode f is it = record {
    pairs = it.pairs;
    read = it.read;
    written = text_of_mode o mode f it.pairs text is (under_options (form_in o.layout f) (document it.pairs) it.text_in_order);
  }

by_options : (o : Options) (order : KeyOrder) (D : Doubles) (mode : Mode) (f : Form) (bytes text : List ℕ)
    → o.key_order ≡ order → o.doubles ≡ D → streaming_form_in_order order D mode ≡ Some f
    → IsDocumentTextOf (form_in o.layout f) depth bytes text → Decodes LastWins o mode bytes text
by_options o Ascending D mode f bytes text given is form it = absurd cc
by_options o AsGiven Special mode f bytes text given is form it = absurd cc
by_options o AsGiven Finite mode f bytes text given is form it = in_form o bytes text given is mode f form it

pub directly : (keys : DuplicateKeys) (o : Options) (mode : Mode) (f : Form) (bytes text : List ℕ)
    → streaming_form keys o mode ≡ Some f → IsDocumentTextOf (form_in o.layout f) depth bytes text
    → Decodes keys o mode bytes text
directly Reject o mode f bytes text given it = absurd cc
directly LastWins o mode f bytes text given it = by_options o o.key_order o.doubles mode f bytes text refl refl given it

-- ---- values

-- a document as a value is seen as the pairs of the document
pub document_seen : (d : Document) → bson_view (held d) ≡ document (document_view d)
document_seen d = search (rules, the_lemmas)
