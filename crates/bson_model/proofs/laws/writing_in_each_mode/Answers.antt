use Rattle.bson_model.proofs.ValueRoundTrips.{has_tree, comes_back}
use Rattle.bson_model.proofs.Modes.{grammar_tree}
use Rattle.bson_model.proofs.laws.writing_in_each_mode.Goals as goal

pub returns : goal.returns
returns c = record {
  tree_exists = has_tree;
  is_tree_of_value = grammar_tree;
  round_trips = comes_back;
}
