use Rattle.std.proofs.Common.{subst, sym}
use Rattle.bson_run.specs.ErrorMessages.{IsPositionMessage}
use Rattle.bson_run.proofs.Explaining.{where_from}
use Rattle.bson_run.proofs.LinesLaws.{oks_with}
use Rattle.bson_run.proofs.explain.explain_under.Goals as goal

pub returns : goal.returns
returns c =
    let v1 = c.args.task.preprocessing.v1 in
    let text = c.args.text.now in
    let fault = c.args.fault.now in
    let found = c.in_ok-explanation_under.field-0 in
    record {
      place = oks_with c.message.result c.message.ensures
          (λ full_message e. subst (IsPositionMessage v1 text fault) (sym e) (where_from v1 text fault found c.in_ok-explanation_under.ensures));
    }
