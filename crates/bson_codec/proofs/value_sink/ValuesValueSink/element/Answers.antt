use Rattle.std.proofs.Common.{◌≡◌, true, false, string_bytes, arith}
use Rattle.bson_scalar.proofs.Offered.{on_ok}
use Rattle.bson.specs.View.{bson_view, values_view}
use Rattle.bson_bytes.specs.Grammar.{pair_values}
use Rattle.bson_codec.proofs.Listed.{pair_put, item_put}
use Rattle.bson_bytes.specs.Source.{with_last_pair}
use Rattle.bson_codec.proofs.value_sink.ValuesValueSink.element.Goals as goal

pub returns-then-is_document-clause-outcome : goal.returns-then-is_document-clause-outcome
returns-then-is_document-clause-outcome g c =
    let t : c.args.is_document ≡ true = grind arith in
    let list = c.args.list.now in
    on_ok c.put_pair.result
    (λ put_pair start before mid ps k v begun name is.
    pair_put g.P.PairList.list_has_pairs c.args.is_document (values_view list.items.items ≡ pair_values ps)
    (values_view list.items.items ≡ pair_values (with_last_pair ps k v)) list.pairs c.put_pair.new.self (string_bytes c.args.name)
    (bson_view c.args.value) ps k v t (put_pair ps) begun name is)
    c.put_pair.ensures

pub returns-else-is_document-clause-outcome : goal.returns-else-is_document-clause-outcome
returns-else-is_document-clause-outcome g c =
    let t : c.args.is_document ≡ false = grind arith in
    let list = c.args.list.now in
    on_ok c.push_item.result
    (λ put_pair start before mid ps k v begun name is.
    item_put c.args.is_document (g.P.PairList.list_has_pairs ps list.pairs) (g.P.PairList.list_has_pairs (with_last_pair ps k v) list.pairs)
    list.items.items c.push_item.new.items.items c.args.value ps k v t (put_pair ps k) begun is)
    c.push_item.ensures
