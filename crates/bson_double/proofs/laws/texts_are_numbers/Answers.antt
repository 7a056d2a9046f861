use Rattle.bson_double.proofs.TextLaws.{json_number}
use Rattle.bson_double.proofs.laws.texts_are_numbers.Goals as goal

pub returns : goal.returns
returns c = json_number
