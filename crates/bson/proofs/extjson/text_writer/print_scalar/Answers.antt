use Rattle.std.proofs.Common.{subst}
use Rattle.std.specs.Prelude.{OnOk}
use Rattle.bson_scalar.specs.View.{scalar_of}
use Rattle.bson_model.specs.Normal.{NumbersInRange}
use Rattle.bson_model.specs.DistinctKeys.{AllKeysDistinct}
use Rattle.bson.specs.KeyOrders.{writes_in_key_order, writes_scalar_in_key_order}
use Rattle.bson.specs.OutputCapacity.{IsAllocationFree, StaysWithinCapacityOrStops, value_capacity}
use Rattle.bson.specs.Texts.{AppendsPrintedTokens}
use Rattle.bson.proofs.Direct.{prints_put, holds_on_ok}
use Rattle.bson.proofs.extjson.text_writer.print_scalar.Goals as goal

pub returns-clause-printed : goal.returns-clause-printed
returns-clause-printed c =
    subst (λ v. AppendsPrintedTokens (λ t. t) c.print_scalar_ref.result (writes_in_key_order c.args.key_order c.args.doubles c.args.form v) c.args.writer.now.tokens
    c.print_scalar_ref.new.writer.tokens) c.scalar_ref.ensures
    (prints_put c.print_scalar_ref.result (writes_scalar_in_key_order c.args.key_order c.args.doubles c.args.form (scalar_of c.scalar_ref.result))
    c.args.writer.now.tokens c.print_scalar_ref.new.writer.tokens c.print_scalar_ref.ensures.printed)

pub returns-clause-within_type_range : goal.returns-clause-within_type_range
returns-clause-within_type_range c =
    subst (λ v. OnOk c.print_scalar_ref.result (NumbersInRange v)) c.scalar_ref.ensures c.print_scalar_ref.ensures.within_type_range

pub returns-clause-distinct : goal.returns-clause-distinct
returns-clause-distinct c =
    subst (λ v. OnOk c.print_scalar_ref.result (AllKeysDistinct v)) c.scalar_ref.ensures (holds_on_ok c.print_scalar_ref.result tt)

pub returns-clause-room : goal.returns-clause-room
returns-clause-room c =
    subst (λ v. IsAllocationFree c.args.form v → StaysWithinCapacityOrStops c.print_scalar_ref.result c.args.writer.now.spare c.print_scalar_ref.new.writer.spare
    (value_capacity c.args.doubles c.args.form v)) c.scalar_ref.ensures c.print_scalar_ref.ensures.room
