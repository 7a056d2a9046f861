use Rattle.std.proofs.Common.{IfOk, subst, sym}
use Rattle.bson_program.specs.Messages.{IsFailureObject}
use Rattle.bson_program.proofs.failure_json.failure_json.Goals as goal

pub returns-in-NotArray : goal.returns-in-NotArray
returns-in-NotArray c =
    subst (λ failure. IfOk c.failure_object-in-NotArray.result (λ line. IsFailureObject failure line.items))
    (sym c.in-NotArray.is) c.failure_object-in-NotArray.ensures

pub returns-in-OutputIsTerminal : goal.returns-in-OutputIsTerminal
returns-in-OutputIsTerminal c =
    subst (λ failure. IfOk c.failure_object-in-OutputIsTerminal.result (λ line. IsFailureObject failure line.items))
    (sym c.in-OutputIsTerminal.is) c.failure_object-in-OutputIsTerminal.ensures
