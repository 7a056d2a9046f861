use Rattle.bson_scalar.specs.declared.form.Doubles.TheVariants.{Special}
use Rattle.bson_scalar.proofs.ScalarLaws.{scalar_from, scalar_to, scalar_one, scalar_form}
use Rattle.bson_scalar.proofs.laws.reading.Goals as goal

pub returns : goal.returns
returns c = record {
  meaning = λ t x. (scalar_from Special t x, scalar_to Special t x);
  unique = scalar_one Special;
  normal_form = scalar_form Special;
}
