use Rattle.std.proofs.Common.{refl}
use Rattle.std.proofs.lemmas.Str.{is_utf8-from_IsUtf8}
use Rattle.bson_types.specs.declared.spec.ElementType.TheVariants as tag
use Rattle.bson_scalar.specs.Scalar.{text}
use Rattle.bson_bytes.specs.PutSteps.{put_text}
use Rattle.bson_codec.proofs.Put.{turned, scalar_put}
use Rattle.bson_codec.proofs.element_writer.ElementWriterValueWriter.string.Goals as goal

pub returns-clause-written : goal.returns-clause-written
returns-clause-written c =
    let s = c.args.text.now in
    let named = c.put_name.new.output.items in
    let new = c.put_text.new.output.items in
    turned c.put_text.result c.map_err.result new (put_text s named) c.map_err.ensures.variant c.put_text.ensures.put
    c.put_text.ensures.grows
    (λ put grows. scalar_put (text s) tag.String c.args.name.now c.args.self.now.bytes.items named new refl
    c.in_ok-put_name.ensures.put (is_utf8-from_IsUtf8 s c.utf8.text) put grows)
