use Rattle.std.proofs.Common.{false, subst, sym}
use Rattle.bson_run.specs.ErrorMessages.{IsPositionMessage}
use Rattle.bson_run.proofs.Explaining.{where_from}
use Rattle.bson_run.proofs.LinesLaws.{oks_with}
use Rattle.bson_run.proofs.explain.explain.Goals as goal

pub returns : goal.returns
returns c =
    let text = c.args.text.now in
    let fault = c.args.fault.now in
    let found = c.in_ok-of.field-0 in
    record {
      place = oks_with c.message.result c.message.ensures
          (λ full_message e. subst (IsPositionMessage false text fault) (sym e) (where_from false text fault found c.in_ok-of.ensures));
    }
