use Rattle.std.proofs.Common.{sym, subst, ◌∙◌}
use Rattle.bson_scalar.specs.View.{scalar_of}
use Rattle.bson_scalar.specs.Tokens.{AppendsTreeTokens}
use Rattle.bson.proofs.KeyOrders.{free_alike}
use Rattle.bson.proofs.Stopped.{put_stopped}
use Rattle.bson.proofs.extjson.text_writer.print_scalar_ref.Goals as goal

printed : goal.returns-then-is_allocation_free-clause-printed
printed c =
    let same = free_alike c.args.key_order c.args.doubles c.args.form (scalar_of c.args.scalar.now)
    (sym c.is_allocation_free.ensures ∙ c.if-is_allocation_free.true) in
    subst (λ w. AppendsTreeTokens c.print_without_allocation.result w c.args.writer.now.tokens c.print_without_allocation.new.writer.tokens)
    (sym same) c.print_without_allocation.ensures.printed

pub returns-then-is_allocation_free-clause-printed : goal.returns-then-is_allocation_free-clause-printed
returns-then-is_allocation_free-clause-printed c = printed c

pub returns-then-is_allocation_free-clause-possible_errors : goal.returns-then-is_allocation_free-clause-possible_errors
returns-then-is_allocation_free-clause-possible_errors c =
    put_stopped c.args.key_order c.args.doubles c.args.form (scalar_of c.args.scalar.now) _ _ c.print_without_allocation.result
    c.can_be_printed.ensures (printed c)
