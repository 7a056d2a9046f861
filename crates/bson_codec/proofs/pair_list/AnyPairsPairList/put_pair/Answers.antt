use Rattle.bson_codec.proofs.Listed.{entries_more}
use Rattle.bson_codec.proofs.pair_list.AnyPairsPairList.put_pair.Goals as goal

pub returns : goal.returns
returns c = λ ps is.
    rw c.in_ok-push.ensures.items (entries_more c.args.self.now.entries.items (record { key = c.args.key; value = c.args.value }) ps is)
