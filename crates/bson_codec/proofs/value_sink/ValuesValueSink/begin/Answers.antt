use Rattle.std.proofs.Common.{◌≡◌, refl}
use Rattle.bson.specs.View.{values_view}
use Rattle.bson_bytes.specs.Grammar.{pair_values}
use Rattle.bson_codec.proofs.Listed.{either_kind}
use Rattle.bson_model.specs.Value.{no_pairs}
use Rattle.bson_codec.proofs.value_sink.ValuesValueSink.begin.Goals as goal

pub returns-clause-outcome : goal.returns-clause-outcome
returns-clause-outcome g c =
    either_kind c.args._is_document (g.P.PairList.list_has_pairs no_pairs c.new-pairs.result)
    (values_view c.new-items.result.items ≡ pair_values no_pairs) c.new-pairs.ensures (rw c.new-items.ensures.items refl)
