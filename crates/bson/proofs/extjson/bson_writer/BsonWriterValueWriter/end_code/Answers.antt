use Rattle.std.proofs.Common.{sym}
use Rattle.bson.proofs.Pushing.{on_ok, code_pushed}
use Rattle.bson.proofs.extjson.bson_writer.BsonWriterValueWriter.end_code.Goals as goal

pub returns-clause-written : goal.returns-clause-written
returns-clause-written c =
    let items = c.in-Array in
    let of_scope = c.in-Some-Document in
    let of_code = c.in-Some-JavaScriptCode in
    on_ok c.push.result c.push.ensures.pushed
    (λ pushed start mid k s ps enclosing framed.
    code_pushed s ps k start mid c.args.self.now c.push.new.self c.args.enclosing items.items c.pop.new.self.items
    c.pop-2.new.self.items of_code.code of_scope.scope c.with_scope.result of_scope.field-0 of_code.field-0
    c.replace.new.dest enclosing framed (sym items.ensures.value) items.ensures.after of_scope.ensures.items
    of_scope.field-0-is of_code.ensures.items of_code.field-0-is
    (rw (of_code.code-is, of_scope.scope-is) at c.with_scope.ensures) pushed.0 pushed.1 pushed.2)
