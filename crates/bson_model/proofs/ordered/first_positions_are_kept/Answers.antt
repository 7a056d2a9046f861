use Rattle.bson_model.proofs.FirstPlaces.{first_places_kept}
use Rattle.bson_model.proofs.ordered.first_positions_are_kept.Goals as goal

pub returns : goal.returns
returns c = first_places_kept
