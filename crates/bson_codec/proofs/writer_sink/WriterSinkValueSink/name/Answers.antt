use Rattle.std.proofs.Common.{refl}
use Rattle.bson_bytes.specs.Reading.{read_name}
use Rattle.bson_bytes.proofs.Offered.{passed_ok}
use Rattle.bson_codec.proofs.writer_sink.WriterSinkValueSink.name.Goals as goal

pub returns-then-not-is_document-clause-outcome : goal.returns-then-not-is_document-clause-outcome
returns-then-not-is_document-clause-outcome g c = λ start ps opened.
    let n = passed_ok (read_name c.args.bytes.now) _ c.in_ok-skip_name.ensures.outcome in
    (n.value, n.read, rw c.if-not-is_document.true (refl, refl))
