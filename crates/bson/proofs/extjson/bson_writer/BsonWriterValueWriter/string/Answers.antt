use Rattle.std.proofs.Common.{ap, ◌∙◌}
use Rattle.bson_model.specs.Value.{scalar}
use Rattle.bson_scalar.specs.Scalar.{text}
use Rattle.bson.specs.declared.bson.Bson.TheVariants.{String}
use Rattle.bson.proofs.Pushing.{scalar_pushed, text_is}
use Rattle.bson.proofs.extjson.bson_writer.BsonWriterValueWriter.string.Goals as goal

pub returns-clause-written : goal.returns-clause-written
returns-clause-written c =
    let s = c.in_ok-text.text in
    scalar_pushed c.push_with_name.result c.args.name.now c.args.self.now c.push_with_name.new.self (String s) (text c.args.text.now) c.push_with_name.ensures.pushed
    (text_is s ∙ ap (λ t. scalar (text t)) c.in_ok-text.ensures.ok)
