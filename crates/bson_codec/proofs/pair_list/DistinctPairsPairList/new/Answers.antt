use Rattle.bson_codec.proofs.Distinct.{distinct_none}
use Rattle.bson_codec.proofs.pair_list.DistinctPairsPairList.new.Goals as goal

pub returns : goal.returns
returns c = distinct_none c.new.result c.new.ensures
