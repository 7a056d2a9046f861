use Rattle.bson_model.proofs.OrderedMeansLaws.{means_from, means_in}
use Rattle.bson_model.proofs.ordered.ordered_reading_is_meaning.Goals as goal

pub returns : goal.returns
returns c = λ D t v is. (means_from D t v, λ m. means_in D m is)
