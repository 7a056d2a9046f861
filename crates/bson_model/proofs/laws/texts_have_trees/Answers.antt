use Rattle.bson_model.proofs.ReadTrees.{read_tree}
use Rattle.bson_model.proofs.laws.texts_have_trees.Goals as goal

pub returns : goal.returns
returns c = read_tree
