use Rattle.bson_tree.proofs.Agrees.{fault_to, means_nothing, one_fault, one_path}
use Rattle.bson_tree.proofs.Everywhere.{has_fault, read_fault}
use Rattle.bson_tree.proofs.laws.places_in_each_mode.Goals as goal

pub returns : goal.returns
returns c = record {
  has_no_meaning = λ D t. (has_fault D t, λ found. means_nothing D found.2);
  fault_is_read = λ D f t. (read_fault D t f, λ found. fault_to D found.1);
  fault = λ D f g t path other m n. one_fault D m n;
  path = λ D f g t path other m n. one_path D m n;
}
