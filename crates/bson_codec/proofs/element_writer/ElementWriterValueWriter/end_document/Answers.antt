use Rattle.std.proofs.Common.{arith, sym, subst}
use Rattle.json.specs.Strict.{AreDistinct}
use Rattle.bson_bytes.specs.PutSteps.{put_nul_and_length}
use Rattle.bson_text.proofs.Offered.{once_is}
use Rattle.bson_codec.specs.PackedText.{DocumentAppended}
use Rattle.bson_codec.proofs.Put.{turned, framed_room, framed_put}
use Rattle.bson_codec.proofs.element_writer.ElementWriterValueWriter.end_document.Goals as goal

pub put_nul_and_length-requires : goal.put_nul_and_length-requires
put_nul_and_length-requires c =
    let h = c.requires in
    let here = framed_room c.args.length_start h.2 h.0 h.1 c.args.self.now h.3 h.4 in
    omega (arith, here, c.args.self.now.bytes.ok)

pub returns-clause-written : goal.returns-clause-written
returns-clause-written c =
    let now = c.args.self.now in
    let new = c.put_nul_and_length.new.output.items in
    turned c.put_nul_and_length.result c.map_err.result new (put_nul_and_length c.args.length_start now.bytes.items) c.map_err.ensures.variant
    c.put_nul_and_length.ensures.put c.put_nul_and_length.ensures.grows
    (λ ended grows old mid ps mark written keys.
    let apart = subst AreDistinct (sym keys) (c.are_distinct.ensures.0 (grind arith)) in
    subst (λ qs. DocumentAppended qs old.bytes.items new) (sym (once_is ps apart))
    (framed_put c.args.length_start ps old mid now new mark written apart ended grows))
