use Rattle.std.proofs.Common.{◌+◌, ◌<◌, ◌≤◌, Ok, subst}
use Rattle.std.proofs.lemmas.Result.{err_from_is_err_and}
use Rattle.bson_scalar.specs.Tokens.{AppendsTreeTokens}
use Rattle.bson_scalar.specs.Written.{special_double_tree}
use Rattle.bson.specs.OutputCapacity.{written_tree_capacity}
use Rattle.bson.proofs.Direct.{wanting}
use Rattle.bson.proofs.extjson.without_allocation.put_special_double.Goals as goal

pub returns-in_err-put_text-in-Some-clause-room : goal.returns-in_err-put_text-in-Some-clause-room
returns-in_err-put_text-in-Some-clause-room c =
    wanting _ _ _ _ (err_from_is_err_and c.from_residual.result c.from_residual.ensures.1)
    (subst (λ o. c.args.writer.now.spare < written_tree_capacity (special_double_tree o)) c.in-Some.ensures
    c.in_err-put_text-in-Some.ensures.room)

pub returns-in_ok-put_text-in-Some-clause-printed : goal.returns-in_ok-put_text-in-Some-clause-printed
returns-in_ok-put_text-in-Some-clause-printed c =
    subst (λ o. AppendsTreeTokens (Ok tt) (special_double_tree o) c.args.writer.now.tokens c.put_text.new.writer.tokens)
    c.in-Some.ensures c.in_ok-put_text-in-Some.ensures.put

pub returns-in_ok-put_text-in-Some-clause-room : goal.returns-in_ok-put_text-in-Some-clause-room
returns-in_ok-put_text-in-Some-clause-room c =
    subst (λ o. c.args.writer.now.spare ≤ c.put_text.new.writer.spare + written_tree_capacity (special_double_tree o))
    c.in-Some.ensures c.in_ok-put_text-in-Some.ensures.room
