use Rattle.std.proofs.Common.{◌≡◌, true, false, sym, ap, ◌∙◌}
use Rattle.bson.proofs.Pushing.{on_ok, still_array, array_pushed}
use Rattle.bson.specs.BsonWriterState.{is_document}
use Rattle.bson.proofs.extjson.bson_writer.BsonWriterValueWriter.end_array.Goals as goal

pub unreachable-requires : goal.unreachable-requires
unreachable-requires c =
    let (start, mid, k, vs, enclosing, written) = c.requires in
    let still = still_array vs k start mid c.args.self.now c.args.enclosing enclosing written in
    let no : true ≡ false = ap is_document c.in_default.ensures.value ∙ still in
    cc

pub returns-clause-written : goal.returns-clause-written
returns-clause-written c =
    let items = c.in-Array in
    on_ok c.push.result c.push.ensures.pushed
    (λ pushed start mid k vs enclosing written.
    array_pushed vs k start mid c.args.self.now c.push.new.self c.args.enclosing items.items c.shrink_to_fit.new.self
    c.replace.new.dest enclosing written (sym items.ensures.value) items.ensures.after c.shrink_to_fit.ensures.items pushed.0
    pushed.1 pushed.2)
