use Rattle.std.proofs.Common.{map}
use Rattle.bson_tokens.specs.NormalizerStates.{entry_at}
use Rattle.bson_tokens.proofs.Ordered.{all_spans, all_within}
use Rattle.bson_tokens.proofs.NormalizedSpans.{stays, settled}
use Rattle.bson_tokens.proofs.member_order.normalize_spans.Goals as goal

pub returns-then-are_normalized : goal.returns-then-are_normalized
returns-then-are_normalized c = λ es stand.
    (es, stand, stays c.args.key_order c.args.body.now c.args.spans.now.items es stand (c.are_normalized.ensures c.if-are_normalized.true))

pub join_spans-requires : goal.join_spans-requires
join_spans-requires c =
    all_within c.args.body.now c.args.key_order c.args.spans.now.items c.order_spans.new.spans.items
    c.order_spans.ensures c.requires

pub returns : goal.returns
returns c = λ es stand.
    let xs = c.args.spans.now.items in
    let zs = c.order_spans.new.spans.items in
    let ordered = c.order_spans.ensures in (
      map (entry_at stand.values) zs,
      c.in_ok-join_spans.ensures stand.values
          (all_spans c.args.body.now stand.values c.args.key_order xs zs ordered stand.all),
      settled c.args.key_order c.args.body.now xs zs es stand ordered,
    )
