-- Canonical texts: one for each normal form.
use Rattle.std.proofs.Common.{◌≡◌, ◌≢◌, ℕ, suc, List, ◌++◌, take, refl, sym, ◌∙◌, ap, subst}
use Rattle.std.proofs.lemmas.List.{append_cancel_right}
use Rattle.std.proofs.lemmas.Str.{IsUtf8-append}
use Rattle.json.proofs.Printed.Utf8.{IsUtf8-are_ascii}
use Rattle.serde_json.specs.Data.{Data}
use Rattle.bson_scalar.specs.TreeText.{tree_text}
use Rattle.bson_scalar.specs.Forms.{form_in}
use Rattle.bson_scalar.specs.declared.form.Form.TheVariants as form
use Rattle.bson_model.specs.Normal.{normal_form}
use Rattle.bson_model.specs.Written.{WrittenIn}
use Rattle.bson_model.specs.TextMeaning.{IsTextOf}
use Rattle.bson_model.specs.declared.options.KeyOrder.TheVariants.{Ascending}
use Rattle.bson_model.specs.declared.options.Options.{Options}
use Rattle.bson_convert.specs.Convert.{ConvertsIn, IsCanonicalText, IsRejectedIn, IsUncanonicalAt, IsUncanonicalIn, newline}
use Rattle.bson_convert.specs.declared.error.Error.{Error}
use Rattle.bson_convert.specs.declared.error.Error.TheVariants.{CannotRead, CannotWrite, NotJson, NotExtendedJson}
use Rattle.bson_convert.specs.declared.error.Error.TheVariants.{NoBytes, NotCanonical, OutOfMemory}
use Rattle.bson_convert.specs.declared.mode.Mode.TheVariants.{Canonical}
use Rattle.bson_convert.proofs.Converting.{converts_one, text_converts}
use Rattle.bson_convert.proofs.Newline.{read_then}
use Rattle.bson_convert.proofs.Twice.{output_kept}
use Rattle.bson_convert.specs.Convert.{IsConvertedText}

module _ (o : Options) where
  pub one : (bytes other : List ℕ) (a : IsCanonicalText o bytes) (b : IsCanonicalText o other)
      → normal_form a.value ≡ normal_form b.value → bytes ≡ other
  one bytes other a b e =
      let written = subst (λ n. WrittenIn o.doubles (form_in o.layout form.Canonical) n b.is_output.tree) (sym e) b.is_output.is_tree.written in
      let same : b.is_output.tree ≡ a.is_output.tree = a.is_output.is_tree.one b.is_output.tree written in
      append_cancel_right bytes other newline
      (a.is_output.line.text ∙ ap (λ t. tree_text o.doubles (form_in o.layout form.Canonical) t ++ newline) (sym same)
      ∙ sym b.is_output.line.text)

  pub given : (bytes text : List ℕ) (tree : Data) → ConvertsIn o Canonical bytes (text ++ newline) → IsTextOf text tree
      → IsCanonicalText o text
  given bytes text tree x is =
      let utf8 = IsUtf8-append text newline is.utf8 (IsUtf8-are_ascii newline refl) in
      let kept = output_kept o Canonical bytes (text ++ newline) x utf8 in
      let shallow = kept.shallow_if_text tree (record { utf8 = utf8; tree_read = read_then text ∙ is.tree_read }) in
      let c = kept.again shallow in
      record {
        tree = c.tree;
        value = c.value;
        text = record { utf8 = is.utf8; tree_read = sym (read_then text) ∙ c.text.tree_read };
        meaning = c.meaning;
        is_output = c.is_output;
      }

  -- what the bytes are converted to is themselves if and only if they are canonical
  pub canonical : (bytes text : List ℕ) → IsConvertedText Ascending o Canonical bytes text → text ≡ bytes → IsCanonicalText o bytes
  canonical bytes text is same = text_converts o Canonical bytes text (bytes ++ newline) is (ap (λ s. s ++ newline) (sym same))

  pub unchanged : (bytes text : List ℕ) → IsConvertedText Ascending o Canonical bytes text → IsCanonicalText o bytes → text ≡ bytes
  unchanged bytes text is c =
      append_cancel_right text bytes newline
      (sym (converts_one o Canonical bytes (text ++ newline) (bytes ++ newline)
      (text_converts o Canonical bytes text (text ++ newline) is refl) c))

  -- they are not, and differ from it after so many bytes
  pub uncanonical : (n : ℕ) (bytes text : List ℕ) → IsConvertedText Ascending o Canonical bytes text → take n bytes ≡ take n text
      → take (suc n) bytes ≢ take (suc n) text → IsUncanonicalAt o (suc n) bytes
  uncanonical n bytes text is same differ = record {
    text = text;
    converts = text_converts o Canonical bytes text (text ++ newline) is refl;
    differ = record { common_length = n; counted = refl; same = same; differ = differ };
  }

  -- they have no canonical text
  pub refused : (fault : Error) (bytes : List ℕ) → IsRejectedIn o fault bytes → IsUncanonicalIn o fault bytes
  refused CannotRead bytes h = h
  refused NotJson bytes h = h
  refused (NotExtendedJson place) bytes h = h
  refused (NoBytes why) bytes h = h
  refused (NotCanonical column) bytes h = absurd h
  refused OutOfMemory bytes h = h
  refused CannotWrite bytes h = h
