use Rattle.bson_convert.proofs.Offered.{kept_by}
use Rattle.bson_run.proofs.TwiceIndented.{laid_kept}
use Rattle.bson_run.proofs.laws.outputs_are_kept.Goals as goal

pub returns-clause-plain : goal.returns-clause-plain
returns-clause-plain c = kept_by

pub returns-clause-indented : goal.returns-clause-indented
returns-clause-indented c = laid_kept
