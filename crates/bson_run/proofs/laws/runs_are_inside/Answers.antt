use Rattle.bson_run.proofs.RunsInside.{done_inside, stops_inside}
use Rattle.bson_run.proofs.laws.runs_are_inside.Goals as goal

pub returns-clause-done : goal.returns-clause-done
returns-clause-done c = done_inside

pub returns-clause-stops : goal.returns-clause-stops
returns-clause-stops c = stops_inside
