use Rattle.bson_codec.proofs.Listed.{items_more}
use Rattle.bson_codec.proofs.value_sink.push_item.Goals as goal

pub returns : goal.returns
returns c = λ ps k is. rw c.in_ok-push.ensures.items (items_more c.args.items.now.items c.args.value ps k is)
