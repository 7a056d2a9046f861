use Rattle.bson_model.proofs.OrderedWriteLaws.{written_from, written_to}
use Rattle.bson_model.proofs.ordered.ordered_writing_is_written.Goals as goal

pub returns : goal.returns
returns c = λ D f v t. (written_from D f v t, written_to D f v t)
