use Rattle.std.proofs.Common.{◌≡◌, ◌++◌, ◌∷◌, [], length, length-append, Ok, refl, sym, ap, arith}
use Rattle.bson_types.specs.declared.spec.ElementType.TheVariants as tag
use Rattle.bson_scalar.specs.Scalar.{boolean}
use Rattle.bson_bytes.specs.Writing.{bool_byte}
use Rattle.bson_codec.proofs.Put.{scalar_put}
use Rattle.bson_codec.proofs.element_writer.ElementWriterValueWriter.boolean.Goals as goal

pub returns-clause-written : goal.returns-clause-written
returns-clause-written c =
    let b = c.args.truth in
    let named = c.put_name.new.output.items in
    let put : c.extend_from_slice.new.self.items ≡ named ++ bool_byte b ∷ [] = grind arith in
    let longer = length-append named (bool_byte b ∷ []) in
    let is = ap length put in
    scalar_put (boolean b) tag.Boolean c.args.name.now c.args.self.now.bytes.items named c.extend_from_slice.new.self.items refl
    c.in_ok-put_name.ensures.put tt (ap Ok (sym put)) (omega (arith, longer, is))
