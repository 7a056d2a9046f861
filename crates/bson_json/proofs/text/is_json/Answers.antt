use Rattle.std.proofs.Common.{refl, ap, sym, ◌∙◌}
use Rattle.std.proofs.lemmas.Bool.{false≢true}
use Rattle.json.specs.Json.{skip_value}
use Rattle.serde_json.specs.Read.{max_depth}
use Rattle.bson_json.proofs.Reading.{passed_to, not_passed, not_ended, some_token}
use Rattle.bson_json.proofs.text.is_json.Goals as goal

-- the text ends where the value does
pub returns-in-None : goal.returns-in-None
returns-in-None c =
    let passed = ap (skip_value max_depth) (sym c.in_ok-reader.ensures.ok) ∙ c.in-Ok.ensures.value in
    record { ok = (λ z. passed_to c.args.text.now _ passed c.in-None.ensures.value.0, λ h. refl) }

-- a token follows the value
pub returns-in-Ok : goal.returns-in-Ok
returns-in-Ok c =
    let passed = ap (skip_value max_depth) (sym c.in_ok-reader.ensures.ok) ∙ c.in-Ok.ensures.value in
    let more = c.in-Some.ensures.value in
    record { ok = (λ z. absurd (false≢true z), λ h. absurd (not_ended c.args.text.now _ passed (λ e. some_token _ _ (sym more ∙ e)) h)) }

-- no value is at the front
pub returns : goal.returns
returns c =
    let refused = ap (skip_value max_depth) (sym c.in_ok-reader.ensures.ok) ∙ c.in-Err.ensures.value in
    record { ok = (λ z. absurd (false≢true z), λ h. absurd (not_passed c.args.text.now refused h)) }
