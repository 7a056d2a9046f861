use Rattle.bson.proofs.Built.{one_listed}
use Rattle.bson.proofs.extjson.builder.BsonBuilderValueBuilder.push.Goals as goal

pub returns : goal.returns
returns c = λ vs v listed represents.
    one_listed c.push.new.self.items c.args.items.now.items c.args.value vs v c.in_ok-push.ensures.items listed represents
