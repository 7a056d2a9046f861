-- The elements of an array.
use Rattle.std.proofs.Common.{◌≡◌, inr, ◌-◌, ℕ, suc, true, false, if◌then◌else◌, List, [], ◌++◌, Option, length, drop, take}
use Rattle.std.proofs.Common.{ap, sym, subst, ◌∙◌, length-drop, take-append-drop, arith}
use Rattle.std.proofs.KnownBytes.{Appends-nil}
use Rattle.std.proofs.lemmas.List.{length-take-le}
use Rattle.std.proofs.lemmas.Str.{IsUtf8-nil}
use Rattle.bson_json.specs.declared.sequence.Separator.TheVariants.{Comma}
use Rattle.bson_json.specs.Sequence.{between_brackets, texts_in, IsArray}
use Rattle.bson_program.specs.Hints.{has_non_whitespace}
use Rattle.bson_program.specs.Texts.{elements_in, IsTextAmong, IsWithin, StopsAt, StopsOn, WritesAllTexts, WritesElements}
use Rattle.bson_program.specs.Texts.AreTextOutputs.{no_texts}
use Rattle.bson_program.specs.declared.invocation.Invocation.{Invocation}
use Rattle.bson_program.specs.declared.run.RunFailure.{RunFailure}

module _ (content elements : List ℕ) (opening closing : ℕ) (is : IsArray content opening closing)
    (are : elements ≡ between_brackets content opening closing) where
  pub within_array : IsWithin content elements closing
  within_array =
      let rest = drop (suc opening) content in
      let size = closing - suc opening in
      let front : length (take (suc opening) content) ≡ suc opening =
      length-take-le (suc opening) content (omega (arith, is.in_order, is.in_content)) in
      let left : length rest ≡ length content - suc opening = length-drop (suc opening) content in
      let middle : length elements ≡ size =
      ap length are ∙ length-take-le size rest (omega (arith, left, is.in_order, is.in_content)) in
      record {
        before = take (suc opening) content;
        after = drop size rest;
        split = sym (take-append-drop (suc opening) content)
            ∙ ap (λ l. take (suc opening) content ++ l) (sym (take-append-drop size rest) ∙ ap (λ l. l ++ drop size rest) (sym are));
        is_end = omega (arith, front, middle, is.in_order);
      }

  pub some_elements : has_non_whitespace elements ≡ true → texts_in Comma elements ≡ elements_in (between_brackets content opening closing)
  some_elements some = sym (ap (λ b. if b then texts_in Comma elements else []) some) ∙ ap elements_in are

  pub no_elements : has_non_whitespace elements ≡ false → [] ≡ elements_in (between_brackets content opening closing)
  no_elements none = sym (ap (λ b. if b then texts_in Comma elements else []) none) ∙ ap elements_in are

  pub elements_done : (invocation : Invocation) (output_before output_after : Option (List ℕ)) → has_non_whitespace elements ≡ true
      → WritesAllTexts invocation (texts_in Comma elements) output_before output_after
      → WritesElements invocation content output_before output_after
  elements_done invocation output_before output_after some w = record {
    opening = opening;
    closing = closing;
    is_array = is;
    elements = subst (λ ts. WritesAllTexts invocation ts output_before output_after) (some_elements some) w;
  }

  pub nothing_done : (invocation : Invocation) (output_before : Option (List ℕ)) → has_non_whitespace elements ≡ false
      → WritesElements invocation content output_before output_before
  nothing_done invocation output_before none = record {
    opening = opening;
    closing = closing;
    is_array = is;
    elements = subst (λ ts. WritesAllTexts invocation ts output_before output_before) (no_elements none)
        (record { output = []; outputs = no_texts; utf8 = λ w. IsUtf8-nil; written = Appends-nil output_before });
  }

  pub element_stops : (invocation : Invocation) (stop : RunFailure) (name : List ℕ) (output_before output_after : Option (List ℕ))
      → has_non_whitespace elements ≡ true
      → StopsAt (IsTextAmong invocation (texts_in Comma elements) content) invocation stop name content output_before output_after
      → StopsOn true invocation stop name content output_before output_after
  element_stops invocation stop name output_before output_after some at = inr (record {
    text = at.text;
    start = at.start;
    written = at.written;
    output_between = at.output_between;
    is_stop = (
      opening,
      closing,
      is,
      subst (λ ts. IsTextAmong invocation ts content at.text at.written at.start) (some_elements some) at.is_stop,
    );
    written_before = at.written_before;
    fails_at_text = at.fails_at_text;
  })
