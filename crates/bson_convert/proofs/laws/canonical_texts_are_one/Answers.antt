use Rattle.bson_convert.proofs.CanonicalTexts.{given}
use Rattle.bson_convert.proofs.laws.canonical_texts_are_one.Goals as goal

pub returns-clause-given : goal.returns-clause-given
returns-clause-given c = given
