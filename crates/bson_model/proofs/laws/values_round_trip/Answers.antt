use Rattle.bson_scalar.specs.declared.form.Doubles.TheVariants.{Special}
use Rattle.bson_model.proofs.ValueRoundTrips.{comes_back}
use Rattle.bson_model.proofs.laws.values_round_trip.Goals as goal

pub returns : goal.returns
returns c = comes_back Special
