use Rattle.std.proofs.Common.{refl}
use Rattle.bson_text.proofs.Sending.{array_sent, with_out}
use Rattle.bson_text.proofs.text_writer.TextWriterValueWriter.end_array.Goals as goal

pub returns-clause-written : goal.returns-clause-written
returns-clause-written c = λ start mid k vs mark written.
    array_sent vs start mid c.args.self.now (with_out c.args.self.now c.end_array.new.self) mark written
    (refl, refl, c.end_array.ensures.room.0, c.in_ok-end_array.ensures.ok)
