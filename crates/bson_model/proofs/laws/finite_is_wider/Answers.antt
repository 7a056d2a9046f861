use Rattle.bson_model.proofs.Modes.{wider, kept}
use Rattle.bson_model.proofs.laws.finite_is_wider.Goals as goal

pub returns : goal.returns
returns c = record { finite_meaning = λ t v m. wider m; finite_writing = kept }
