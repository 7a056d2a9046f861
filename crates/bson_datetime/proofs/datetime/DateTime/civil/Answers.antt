use Rattle.bson_datetime.proofs.DisplayedLemmas.{moment-civil_of_millis}
use Rattle.bson_datetime.proofs.datetime.DateTime.civil.Goals as goal

pub returns-in-Ok-clause-fields : goal.returns-in-Ok-clause-fields
returns-in-Ok-clause-fields c = λ h. moment-civil_of_millis c.args.self h

pub returns-in-Err-clause-fields : goal.returns-in-Err-clause-fields
returns-in-Err-clause-fields c = λ h. moment-civil_of_millis c.args.self h
