use Rattle.bson_scalar.specs.declared.form.Doubles.TheVariants.{Special}
use Rattle.bson_scalar.proofs.ScalarLaws.{reads_back, nf_again, as_read_again}
use Rattle.bson_scalar.proofs.laws.round_trip.Goals as goal

pub returns : goal.returns
returns c = record {
  read_back = reads_back Special;
  normal = nf_again;
  as_read_back = as_read_again;
}
