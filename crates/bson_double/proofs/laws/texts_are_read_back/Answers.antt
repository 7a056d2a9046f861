use Rattle.bson_double.proofs.TextLaws.{read_back}
use Rattle.bson_double.proofs.laws.texts_are_read_back.Goals as goal

pub returns : goal.returns
returns c = read_back
