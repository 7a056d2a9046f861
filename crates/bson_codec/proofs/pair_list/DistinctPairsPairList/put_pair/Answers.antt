use Rattle.std.proofs.Common.{string_bytes}
use Rattle.bson_codec.proofs.Distinct.{distinct_more}
use Rattle.bson_codec.proofs.pair_list.DistinctPairsPairList.put_pair.Goals as goal

pub returns-in-Ok : goal.returns-in-Ok
returns-in-Ok c = λ ps h.
    distinct_more ps c.args.self.now.inserted c.insert.new.self (string_bytes c.args.key) c.args.value c.in-Ok.ensures.put h
