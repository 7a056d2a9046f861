use Rattle.std.proofs.Common.{refl}
use Rattle.bson_text.proofs.Sending.{code_sent, with_out}
use Rattle.bson_text.proofs.text_writer.TextWriterValueWriter.end_code.Goals as goal

pub returns-clause-written : goal.returns-clause-written
returns-clause-written c = λ start mid k s ps mark wrote_document.
    code_sent s ps start mid c.args.self.now (with_out c.args.self.now c.end_object.new.self) mark wrote_document
    (refl, refl, c.end_object.ensures.room.0, c.in_ok-end_object.ensures.ok)
