use Rattle.bson_program.proofs.Advising.{at_stop}
use Rattle.bson_program.proofs.advice.advice_for_syntax_error.Goals as goal

pub returns : goal.returns
returns c = at_stop c.args.invocation.now c.args.text.now c.in-Ok.json_error.rule c.min.result c.advice_for_rule.result
    c.in-Ok.ensures.rule c.advice_for_rule.ensures
