use Rattle.bson_model.proofs.OrderedWriteLaws.{writable_has_tree}
use Rattle.bson_model.proofs.ordered.writable_has_ordered_tree.Goals as goal

pub returns : goal.returns
returns c = writable_has_tree
