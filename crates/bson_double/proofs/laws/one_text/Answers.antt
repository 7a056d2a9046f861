use Rattle.bson_double.proofs.TextLaws.{one_text, some_text, texts_apart}
use Rattle.bson_double.proofs.laws.one_text.Goals as goal

pub returns-clause-one : goal.returns-clause-one
returns-clause-one c = one_text

pub returns-clause-exists : goal.returns-clause-exists
returns-clause-exists c = some_text

pub returns-clause-apart : goal.returns-clause-apart
returns-clause-apart c = texts_apart
