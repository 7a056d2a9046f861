use Rattle.std.proofs.Common.{◌≡◌, true, false, string_bytes, arith}
use Rattle.bson.specs.View.{values_view}
use Rattle.bson_bytes.specs.Grammar.{pair_values}
use Rattle.bson_codec.proofs.Listed.{of_document, named_key, named_free}
use Rattle.bson_bytes.specs.declared.stop.Stop.TheVariants as stops
use Rattle.bson_codec.proofs.value_sink.ValuesValueSink.name.Goals as goal

pub returns-then-is_document-clause-outcome : goal.returns-then-is_document-clause-outcome
returns-then-is_document-clause-outcome g c = λ start ps begun.
    let t : c.args.is_document ≡ true = grind arith in
    named_key (λ e. e ≡ stops.OutOfMemory) (λ x. x.1.now) (λ x. string_bytes x.0) c.args.is_document g.P.PairList.keys ps
    c.args.bytes.now c.read_key_copy.result t
    (c.read_key_copy.ensures.outcome ps (of_document c.args.is_document (g.P.PairList.list_has_pairs ps c.args.list.now.pairs)
    (values_view c.args.list.now.items.items ≡ pair_values ps) t begun))

pub returns-else-is_document-clause-outcome : goal.returns-else-is_document-clause-outcome
returns-else-is_document-clause-outcome g c = λ start ps begun.
    let t : c.args.is_document ≡ false = grind arith in
    named_free (λ e. e ≡ stops.OutOfMemory) (λ x. x.1.now) (λ x. string_bytes x.0) c.args.is_document g.P.PairList.keys ps
    c.args.bytes.now c.skip_array_name.result t c.skip_array_name.ensures.outcome
