use Rattle.std.proofs.Common.{arith}
use Rattle.bson_bytes.specs.PutSteps.{put_nul_and_length}
use Rattle.bson_codec.proofs.Put.{turned, array_room, array_put}
use Rattle.bson_codec.proofs.element_writer.ElementWriterValueWriter.end_array.Goals as goal

pub put_nul_and_length-requires : goal.put_nul_and_length-requires
put_nul_and_length-requires c =
    let h = c.requires in
    let here = array_room h.2 c.args.length_start h.3 h.0 h.1 c.args.self.now h.4 h.5 in
    omega (arith, here, c.args.self.now.bytes.ok)

pub returns-clause-written : goal.returns-clause-written
returns-clause-written c =
    let now = c.args.self.now in
    let new = c.put_nul_and_length.new.output.items in
    turned c.put_nul_and_length.result c.map_err.result new (put_nul_and_length c.args.length_start now.bytes.items) c.map_err.ensures.variant
    c.put_nul_and_length.ensures.put c.put_nul_and_length.ensures.grows
    (λ ended grows old mid k vs mark written. array_put k c.args.length_start vs old mid now new mark written ended grows)
