use Rattle.bson_bytes.specs.Reading.{read_name}
use Rattle.bson_bytes.proofs.Offered.{passed_ok}
use Rattle.bson_codec.proofs.value_sink.skip_array_name.Goals as goal

pub returns-clause-outcome : goal.returns-clause-outcome
returns-clause-outcome c =
    let n = passed_ok (read_name c.args.bytes.now) _ c.in_ok-rest.ensures.outcome in
    (n.value, n.read, tt)
