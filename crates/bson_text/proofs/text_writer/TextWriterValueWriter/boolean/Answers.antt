use Rattle.std.proofs.Common.{refl}
use Rattle.serde_json.specs.Data.{boolean}
use Rattle.bson_text.proofs.text_writer.TextWriterValueWriter.boolean.Goals as goal

pub returns-clause-written : goal.returns-clause-written
returns-clause-written c = (boolean c.args.truth, refl, (refl, refl, c.boolean.ensures.room.0, c.in_ok-boolean.ensures.ok))
