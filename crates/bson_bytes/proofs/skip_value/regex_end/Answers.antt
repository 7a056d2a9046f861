use Rattle.bson_bytes.proofs.Finding.{some_next}
use Rattle.bson_bytes.proofs.Passing.{regex_place}
use Rattle.bson_bytes.proofs.skip_value.regex_end.Goals as goal

pub returns-in-Some-clause-outcome : goal.returns-in-Some-clause-outcome
returns-in-Some-clause-outcome c =
    regex_place c.args.bytes.now c.in-Some.rest.now c.args.position c.requires
    (some_next c.skip_regex.result _ c.in-Some.rest c.skip_regex.ensures.outcome c.in-Some.is)
