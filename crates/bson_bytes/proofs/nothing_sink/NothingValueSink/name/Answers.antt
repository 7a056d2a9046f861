use Rattle.bson_bytes.specs.Reading.{read_name}
use Rattle.bson_bytes.proofs.Offered.{passed_ok}
use Rattle.bson_bytes.proofs.nothing_sink.NothingValueSink.name.Goals as goal

pub returns-clause-outcome : goal.returns-clause-outcome
returns-clause-outcome c = λ start ps begun.
    let n = passed_ok (read_name c.args.bytes.now) _ c.in_ok-skip_name.ensures.outcome in
    (n.value, n.read, tt)
