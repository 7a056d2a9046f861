use Rattle.bson_model.proofs.OneOrder.{default_means, means_in_order}
use Rattle.bson_model.proofs.ordered.sorted_trees_mean_alike.Goals as goal

pub returns : goal.returns
returns c = λ D t v is. (λ m. default_means D m is, λ m. means_in_order D m is)
