use Rattle.bson_scalar.proofs.Appending.{if_ok, keyed_next}
use Rattle.bson_scalar.proofs.sink.WriterSink.key.Goals as goal

pub returns-clause-written : goal.returns-clause-written
returns-clause-written c =
    if_ok c.key.result c.key.ensures.ok
    (λ x h start ms begun. keyed_next start.tokens c.args.self.now.tokens c.key.new.self.tokens ms c.args.key_name.now begun
    h)
