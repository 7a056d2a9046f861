use Rattle.bson_model.proofs.OrderedWriteLaws.{default_written}
use Rattle.bson_model.proofs.ordered.written_forgets_order.Goals as goal

pub returns : goal.returns
returns c = default_written
