use Rattle.bson.proofs.Pushing.{code_begun}
use Rattle.bson.proofs.extjson.bson_writer.BsonWriterValueWriter.begin_code.Goals as goal

pub returns-clause-written : goal.returns-clause-written
returns-clause-written c =
    let (key_order, kind, all) = c.in_ok-push_with_name.ensures.pushed in
    code_begun c.args.code.now c.args.name.now c.args.self.now c.push_with_name.new.self
    record { outer = c.replace-outer.result; key = c.in_ok-key.key } c.replace-outer.new.dest c.new.result c.in_ok-code.code
    c.replace-outer.ensures.after c.new.ensures.items key_order kind all c.replace-outer.ensures.value c.in_ok-key.ensures
    c.in_ok-code.ensures.ok
