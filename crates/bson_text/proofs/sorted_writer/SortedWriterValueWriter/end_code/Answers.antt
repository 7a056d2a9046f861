use Rattle.bson_text.proofs.Sorting.{code_added}
use Rattle.bson_text.proofs.sorted_writer.SortedWriterValueWriter.end_code.Goals as goal

pub returns-clause-written : goal.returns-clause-written
returns-clause-written c = λ start mid k s ps mark wrote_document.
    code_added s ps start mid c.args.self.now c.add_byte.new.self mark wrote_document c.in_ok-add_byte.ensures
