use Rattle.bson_model.proofs.KeptTrees.{read_is_kept}
use Rattle.bson_model.proofs.ordered.texts_have_ordered_trees.Goals as goal

pub returns : goal.returns
returns c = read_is_kept
