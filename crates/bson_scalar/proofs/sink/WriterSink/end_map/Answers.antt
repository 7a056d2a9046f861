use Rattle.bson_scalar.proofs.Appending.{if_ok, map_ends}
use Rattle.bson_scalar.proofs.sink.WriterSink.end_map.Goals as goal

pub returns-clause-written : goal.returns-clause-written
returns-clause-written c =
    if_ok c.end_object.result c.end_object.ensures.ok
    (λ x h start ms begun. map_ends start.tokens c.args.self.now.tokens c.end_object.new.self.tokens ms begun h)
