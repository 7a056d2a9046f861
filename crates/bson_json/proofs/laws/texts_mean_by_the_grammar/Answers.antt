use Rattle.bson_json.proofs.Reading.{tree_from, tree_to}
use Rattle.bson_json.proofs.laws.texts_mean_by_the_grammar.Goals as goal

pub returns-clause-tree_is_read : goal.returns-clause-tree_is_read
returns-clause-tree_is_read c = λ text t. (tree_to text t, tree_from text t)

pub returns-clause-text_meaning : goal.returns-clause-text_meaning
returns-clause-text_meaning c = λ D text v. (λ m. (m.0, tree_to text m.0 m.1, m.2), λ m. (m.0, tree_from text m.0 m.1, m.2))
