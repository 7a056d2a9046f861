use Rattle.std.proofs.Common.{refl}
use Rattle.serde_json.specs.Data.{null}
use Rattle.bson_text.proofs.text_writer.TextWriterValueWriter.null.Goals as goal

pub returns-clause-written : goal.returns-clause-written
returns-clause-written c = (null, refl, (refl, refl, c.null.ensures.room.0, c.in_ok-null.ensures.ok))
