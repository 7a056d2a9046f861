use Rattle.bson_model.proofs.Ascending.{is_sorted}
use Rattle.bson_model.proofs.ValueRoundTrips.{read_comes_back}
use Rattle.bson_model.proofs.MeansLaws.{means_from, means_to, means_one}
use Rattle.bson_model.proofs.RangeLaws.{in_range}
use Rattle.bson_model.proofs.ReadForm.{form}
use Rattle.bson_model.proofs.laws.reading_in_each_mode.Goals as goal

pub returns : goal.returns
returns c = record {
  at_most_one_meaning = means_one;
  reading_agrees = λ D t v. (means_from D t v, λ m. means_to D m);
  read_form = λ D t v m. form D m;
  within_type_range = λ D t v is m. in_range D m is;
  keys_ascend = λ D t v is m. is_sorted D m is;
  round_trips = read_comes_back;
}
