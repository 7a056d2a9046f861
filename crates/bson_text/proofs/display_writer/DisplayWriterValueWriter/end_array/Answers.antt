use Rattle.bson_text.proofs.ShownTexts.{array_added}
use Rattle.bson_text.proofs.display_writer.DisplayWriterValueWriter.end_array.Goals as goal

pub returns-clause-written : goal.returns-clause-written
returns-clause-written c = λ start mid k vs mark written.
    array_added vs start mid c.args.self.now c.add_text.new.self mark written c.in_ok-add_text.ensures
