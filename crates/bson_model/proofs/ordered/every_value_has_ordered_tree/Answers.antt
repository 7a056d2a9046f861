use Rattle.bson_model.proofs.OrderedModes.{always_written}
use Rattle.bson_model.proofs.ordered.every_value_has_ordered_tree.Goals as goal

pub returns : goal.returns
returns c = always_written
