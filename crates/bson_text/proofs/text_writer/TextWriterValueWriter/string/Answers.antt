use Rattle.std.proofs.Common.{refl}
use Rattle.serde_json.specs.Data.{string}
use Rattle.bson_text.proofs.text_writer.TextWriterValueWriter.string.Goals as goal

pub returns-clause-written : goal.returns-clause-written
returns-clause-written c = (string c.args.text.now, refl, (refl, refl, c.string.ensures.room.0, c.in_ok-string.ensures.ok))
