use Rattle.bson_model.proofs.OrderedModes.{wider, wider_text, kept}
use Rattle.bson_model.proofs.ordered.finite_is_wider_for_ordered_trees.Goals as goal

pub returns : goal.returns
returns c = record { finite_meaning = λ t v m. wider m; finite_text_meaning = wider_text; finite_writing = kept }
