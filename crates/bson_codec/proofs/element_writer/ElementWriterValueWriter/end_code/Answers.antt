use Rattle.std.proofs.Common.{arith}
use Rattle.bson_bytes.specs.PutSteps.{put_length}
use Rattle.bson_codec.proofs.Put.{turned, code_put}
use Rattle.bson_codec.proofs.element_writer.ElementWriterValueWriter.end_code.Goals as goal

pub put_length-requires : goal.put_length-requires
put_length-requires c =
    let h = c.requires in
    omega (arith, h.5.4, h.6.2, c.args.self.now.bytes.ok)

pub returns-clause-written : goal.returns-clause-written
returns-clause-written c =
    let now = c.args.self.now in
    let new = c.put_length.new.output.items in
    turned c.put_length.result c.map_err.result new (put_length c.args.length_start now.bytes.items) c.map_err.ensures.variant
    c.put_length.ensures.put c.put_length.ensures.grows
    (λ ended grows old mid k s ps mark framed. code_put k s c.args.length_start ps old.bytes.items mid.bytes.items
    now.bytes.items new mark framed ended grows)
