use Rattle.std.proofs.Common.{Ok, refl, ap, append-nil, arith}
use Rattle.bson_types.specs.declared.spec.ElementType.TheVariants as tag
use Rattle.bson_scalar.specs.Scalar.{null}
use Rattle.bson_codec.proofs.Put.{scalar_put}
use Rattle.bson_codec.proofs.element_writer.ElementWriterValueWriter.null.Goals as goal

pub returns-clause-written : goal.returns-clause-written
returns-clause-written c =
    let named = c.put_name.new.output.items in
    scalar_put null tag.Null c.args.name.now c.args.self.now.bytes.items named named refl c.in_ok-put_name.ensures.put tt
    (ap Ok (append-nil named)) (omega arith)
