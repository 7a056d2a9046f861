use Rattle.bson_codec.proofs.OneDump.{either_end, one_end}
use Rattle.bson_codec.proofs.laws.one_end.Goals as goal

pub returns-clause-same_end : goal.returns-clause-same_end
returns-clause-same_end c = one_end

pub returns-clause-never_both : goal.returns-clause-never_both
returns-clause-never_both c = either_end
