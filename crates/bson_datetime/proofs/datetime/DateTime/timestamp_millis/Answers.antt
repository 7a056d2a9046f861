use Rattle.bson_datetime.proofs.DisplayedLemmas.{civil_of_millis-moment, moment-civil_of_millis, moment-within}
use Rattle.bson_datetime.proofs.datetime.DateTime.timestamp_millis.Goals as goal

pub returns-clause-exists : goal.returns-clause-exists
returns-clause-exists c = λ within. moment-civil_of_millis _ within

pub returns-clause-only : goal.returns-clause-only
returns-clause-only c = λ at is. (moment-within _ at is, civil_of_millis-moment _ at is)
