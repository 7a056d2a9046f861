use Rattle.std.proofs.Common.{◌≡◌, true, false, sym, ap, ◌∙◌}
use Rattle.bson.proofs.Pushing.{on_ok, still_document, document_pushed}
use Rattle.bson.specs.BsonWriterState.{is_document}
use Rattle.bson.proofs.extjson.bson_writer.BsonWriterValueWriter.end_document.Goals as goal

pub unreachable-requires : goal.unreachable-requires
unreachable-requires c =
    let (start, mid, ps, enclosing, written, named) = c.requires in
    let still = still_document ps start mid c.args.self.now c.args.enclosing enclosing written in
    let no : false ≡ true = ap is_document c.in_default.ensures.value ∙ still in
    cc

pub returns-clause-written : goal.returns-clause-written
returns-clause-written c =
    let entries = c.in-Document in
    on_ok c.push.result c.push.ensures.pushed
    (λ pushed start mid ps enclosing written named.
    document_pushed ps start mid c.args.self.now c.push.new.self c.args.enclosing entries.entries c.in_ok-document.document
    c.replace.new.dest enclosing written (sym entries.ensures.value) entries.ensures.after c.in_ok-document.ensures pushed.0
    pushed.1 pushed.2)
