use Rattle.std.proofs.Common.{◌∙◌, ap, sym, None, Some, drop}
use Rattle.std.specs.Prelude.{option_map}
use Rattle.bson_bytes.proofs.Passing.{emptied, ended, unnamed, passes, no_len, some_len}
use Rattle.bson_bytes.proofs.skip_value.name_and_value_end.Goals as goal

pub returns-then-bytes-position-clause-outcome : goal.returns-then-bytes-position-clause-outcome
returns-then-bytes-position-clause-outcome c = λ d ps h. emptied d c.args.bytes.now c.args.position ps h c.if-bytes-position.true

pub returns-then-tag-eq0-clause-outcome : goal.returns-then-tag-eq0-clause-outcome
returns-then-tag-eq0-clause-outcome c = λ d ps h. ended d c.args.bytes.now c.args.position ps h c.if-bytes-position.false c.if-tag-eq0.true

pub returns-in_default-clause-outcome : goal.returns-in_default-clause-outcome
returns-in_default-clause-outcome c =
    λ d ps h. unnamed d c.args.bytes.now c.args.position ps h c.if-bytes-position.false
    (no_len _ c.name_len.result c.name_len.ensures.outcome c.in_default.is)

pub returns-in_default-value_end-clause-outcome : goal.returns-in_default-value_end-clause-outcome
returns-in_default-value_end-clause-outcome c =
    λ d ps h. passes d c.args.bytes.now c.args.position ps h c.if-bytes-position.false c.if-tag-eq0.false _ _
    (some_len _ c.name_len.result c.in-Some.len c.name_len.ensures.outcome c.in-Some.is) c.size_of.result c.size_of.ensures None
    (sym (ap (option_map (λ index. drop index c.args.bytes.now)) c.in_default-value_end.is) ∙ c.value_end.ensures.outcome)

pub returns-clause-outcome : goal.returns-clause-outcome
returns-clause-outcome c =
    λ d ps h. passes d c.args.bytes.now c.args.position ps h c.if-bytes-position.false c.if-tag-eq0.false _ _
    (some_len _ c.name_len.result c.in-Some.len c.name_len.ensures.outcome c.in-Some.is) c.size_of.result c.size_of.ensures
    (Some c.in-Some-value_end.end_position)
    (sym (ap (option_map (λ index. drop index c.args.bytes.now)) c.in-Some-value_end.is) ∙ c.value_end.ensures.outcome)
