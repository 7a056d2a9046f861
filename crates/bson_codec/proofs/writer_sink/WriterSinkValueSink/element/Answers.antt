use Rattle.std.proofs.Common.{[]}
use Rattle.bson_codec.proofs.WriterSinks.{element_given}
use Rattle.bson_codec.proofs.writer_sink.WriterSinkValueSink.element.Goals as goal

pub returns-clause-outcome : goal.returns-clause-outcome
returns-clause-outcome g c = λ start before named ps k v opened name written.
    let W = g.W.ValueWriter in
    element_given W.wrote_value c.args._is_document W.wrote_key W.item_name_of (W.began_document start.writer c.args._list.now.container)
    (W.began_array start.writer [] c.args._list.now.container) _ start.keys.items before.keys.items named.keys.items
    c.args.self.now.keys.items before.writer named.writer c.args.self.now.writer ps k v g.met.W.UnnamedWriter.ignores_names opened name written
