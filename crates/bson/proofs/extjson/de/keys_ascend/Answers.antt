use Rattle.bson.proofs.Ascending.{ascends}
use Rattle.bson.proofs.extjson.de.keys_ascend.Goals as goal

pub returns : goal.returns
returns c = ascends c.args.map.now.entries c.iter-pairs.ensures.ordered
