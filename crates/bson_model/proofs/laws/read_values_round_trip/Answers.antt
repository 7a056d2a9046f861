use Rattle.bson_scalar.specs.declared.form.Doubles.TheVariants.{Special}
use Rattle.bson_model.proofs.ValueRoundTrips.{read_comes_back}
use Rattle.bson_model.proofs.laws.read_values_round_trip.Goals as goal

pub returns : goal.returns
returns c = read_comes_back Special
