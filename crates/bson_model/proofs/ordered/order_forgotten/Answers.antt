use Rattle.bson_model.proofs.Forgetting.{read_forgotten}
use Rattle.bson_model.proofs.ordered.order_forgotten.Goals as goal

pub returns : goal.returns
returns c = read_forgotten
