use Rattle.bson_model.proofs.OrderedTexts.{comes_back}
use Rattle.bson_model.proofs.ordered.ordered_values_round_trip.Goals as goal

pub returns : goal.returns
returns c = λ D text v m. comes_back D v text m
