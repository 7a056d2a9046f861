use Rattle.std.proofs.Common.{refl, arith}
use Rattle.std.proofs.lemmas.Str.{is_utf8-from_IsUtf8}
use Rattle.bson_codec.proofs.element_writer.ElementWriterValueWriter.key.Goals as goal

pub returns-clause-written : goal.returns-clause-written
returns-clause-written c = (refl, grind arith, is_utf8-from_IsUtf8 c.args.name.now c.utf8.name)
