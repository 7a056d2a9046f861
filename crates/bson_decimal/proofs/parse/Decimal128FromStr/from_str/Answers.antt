use Rattle.std.proofs.Common.{◌≡◌, ◌+◌, ℕ, List, ap, sym, ◌∙◌, subst}
use Rattle.std.specs.Prelude.{Ok, Err}
use Rattle.std.proofs.lemmas.Result.{err_from_is_err_and}
use Rattle.std.specs.Int.{w128, to_le_bytes}
use Rattle.std.specs.Str.Parse.{without_leading_sign, starts_with_minus}
use Rattle.bson_decimal.specs.DecimalBits.{sign_bit, encoded_finite}
use Rattle.bson_decimal.specs.DecimalStrings.{DenotesDecimal}
use Rattle.bson_decimal.specs.ParseSteps.{finite, decimal_parse_error, first_parse_error}
use Rattle.bson_decimal.proofs.Parsing.{special-parses, finite-parses, refused-parses, finite-within}
use Rattle.bson_decimal.specs.ParseResult.{IsParseResult}
use Rattle.bson_decimal.proofs.DisplayedLaws.{reads-display_text, display_text-same}
use Rattle.bson_decimal.proofs.parse.Decimal128FromStr.from_str.Goals as goal

abbrev Only : List ℕ → List ℕ → Type 0
Only text d = DenotesDecimal text d × ((b : List ℕ) → DenotesDecimal text b → b ≡ d)

some : (c : goal.After-from_bytes) → Only c.args.text.now c.from_bytes.result
some c =
    let text = c.args.text.now in
    let word = rw c.without_sign-unsigned_text.ensures at c.in-Some.ensures.word in
    let bytes : c.from_bytes.result ≡ to_le_bytes w128 (sign_bit (starts_with_minus text) + c.in-Some.special_bits) =
    c.from_bytes.ensures ∙ c.to_le_bytes.ensures
    ∙ ap (λ n. to_le_bytes w128 (n + c.in-Some.special_bits))
    (c.sign_bit.ensures.value ∙ ap sign_bit c.is_negative-negative.ensures) in
    subst (Only text) (sym bytes) (special-parses text c.in-Some.special_bits word)

pub returns-in-Some-clause-answer : goal.returns-in-Some-clause-answer
returns-in-Some-clause-answer c = some c

pub returns-in-Some-clause-reads_displayed : goal.returns-in-Some-clause-reads_displayed
returns-in-Some-clause-reads_displayed c = reads-display_text c.args.text.now (Ok c.from_bytes.result) (some c)

pub returns-in-Some-clause-prints_apart : goal.returns-in-Some-clause-prints_apart
returns-in-Some-clause-prints_apart c = display_text-same

refused : (c : goal.After-from_residual) → IsParseResult c.args.text.now c.from_residual.result
unfolding decimal_parse_error
refused c =
    let text = c.args.text.now in
    let p = err_from_is_err_and c.from_residual.result c.from_residual.ensures.1 in
    let is : finite (without_leading_sign text) ≡ Err c.in_err-coefficient.field-0.0 =
    ap finite (sym c.without_sign-unsigned_text.ensures)
    ∙ sym c.in_err-coefficient.ensures.value in
    let plain = rw c.without_sign-unsigned_text.ensures at c.in_default.ensures.word in
    rw (p.1, p.2) (refused-parses text _ plain is, ap first_parse_error (sym is))

pub returns-in_err-coefficient-clause-answer : goal.returns-in_err-coefficient-clause-answer
returns-in_err-coefficient-clause-answer c = refused c

pub returns-in_err-coefficient-clause-reads_displayed : goal.returns-in_err-coefficient-clause-reads_displayed
returns-in_err-coefficient-clause-reads_displayed c =
    reads-display_text c.args.text.now c.from_residual.result (refused c)

pub returns-in_err-coefficient-clause-prints_apart : goal.returns-in_err-coefficient-clause-prints_apart
returns-in_err-coefficient-clause-prints_apart c = display_text-same

pub encoded_finite-requires-clause-coefficient : goal.encoded_finite-requires-clause-coefficient
encoded_finite-requires-clause-coefficient c = (finite-within _ _ (sym c.in_ok-coefficient.ensures.value)).0

pub encoded_finite-requires-clause-exponent : goal.encoded_finite-requires-clause-exponent
encoded_finite-requires-clause-exponent c = (finite-within _ _ (sym c.in_ok-coefficient.ensures.value)).1

pair : (c : goal.After-from_bytes-2) → Only c.args.text.now c.from_bytes-2.result
pair c =
    let text = c.args.text.now in
    let is : finite (without_leading_sign text)
    ≡ Ok (c.in_ok-coefficient.coefficient, c.in_ok-coefficient.stored_exponent) =
    ap finite (sym c.without_sign-unsigned_text.ensures)
    ∙ sym c.in_ok-coefficient.ensures.value in
    let plain = rw c.without_sign-unsigned_text.ensures at c.in_default.ensures.word in
    let bytes : c.from_bytes-2.result ≡ to_le_bytes w128
    (encoded_finite (starts_with_minus text) c.in_ok-coefficient.coefficient c.in_ok-coefficient.stored_exponent) =
    c.from_bytes-2.ensures ∙ c.to_le_bytes-2.ensures
    ∙ ap (to_le_bytes w128)
    (c.encoded_finite.ensures
    ∙ ap (λ b. encoded_finite b c.in_ok-coefficient.coefficient c.in_ok-coefficient.stored_exponent)
    c.is_negative-negative.ensures) in
    subst (Only text) (sym bytes) (finite-parses text _ plain is)

pub returns-clause-answer : goal.returns-clause-answer
returns-clause-answer c = pair c

pub returns-clause-reads_displayed : goal.returns-clause-reads_displayed
returns-clause-reads_displayed c = reads-display_text c.args.text.now (Ok c.from_bytes-2.result) (pair c)

pub returns-clause-prints_apart : goal.returns-clause-prints_apart
returns-clause-prints_apart c = display_text-same
