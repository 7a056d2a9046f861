use Rattle.std.proofs.Common.{Some, subst, sym}
use Rattle.bson_tokens.specs.TextErrors.{IsTextPlaceIn}
use Rattle.bson_text.proofs.FirstFaults.{none_in_text, first_in_text}
use Rattle.bson_text.proofs.first_fault.first_fault_of_normalized.Goals as goal

pub returns-in-Ok : goal.returns-in-Ok
returns-in-Ok c = record {
  place = λ text is. none_in_text c.args.doubles text c.args.normalized.now is c.in-Ok.ensures.ok.0 c.in-Ok.ensures.ok.1;
}

pub returns-in-Err-Fault : goal.returns-in-Err-Fault
returns-in-Err-Fault c =
    let at = c.in-Err-Fault in
    record {
      place = λ text is. subst (λ p. IsTextPlaceIn c.args.doubles text (Some p)) (sym c.into_inner.ensures)
          (first_in_text c.args.doubles text c.args.normalized.now is at.field-0 at.place at.field-0-is at.ensures.located);
    }
