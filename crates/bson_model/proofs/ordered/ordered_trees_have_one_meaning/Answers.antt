use Rattle.bson_model.proofs.OrderedMeansLaws.{one_in_order}
use Rattle.bson_model.proofs.ordered.ordered_trees_have_one_meaning.Goals as goal

pub returns : goal.returns
returns c = one_in_order
