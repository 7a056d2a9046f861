use Rattle.std.proofs.Common.{◌+◌, ◌<◌, ◌≤◌, Ok, sym, subst}
use Rattle.std.proofs.lemmas.Result.{err_from_is_err_and}
use Rattle.bson_scalar.specs.Doubles.{or_finite_text}
use Rattle.bson_scalar.specs.Tokens.{AppendsTreeTokens}
use Rattle.bson_scalar.specs.Written.{special_double_tree}
use Rattle.bson.specs.OutputCapacity.{written_tree_capacity}
use Rattle.bson.proofs.Direct.{canonical_is, wanting}
use Rattle.bson.proofs.extjson.without_allocation.put_canonical_double.Goals as goal

pub returns-in_err-put_text-in-Some-clause-room : goal.returns-in_err-put_text-in-Some-clause-room
returns-in_err-put_text-in-Some-clause-room c =
    wanting _ _ _ _ (err_from_is_err_and c.from_residual.result c.from_residual.ensures.1)
    (subst (λ o. c.args.writer.now.spare < written_tree_capacity (special_double_tree (or_finite_text o c.args.pattern))) c.in-Some.ensures
    c.in_err-put_text-in-Some.ensures.room)

pub returns-in_ok-put_text-in-Some-clause-printed : goal.returns-in_ok-put_text-in-Some-clause-printed
returns-in_ok-put_text-in-Some-clause-printed c =
    subst (λ o. AppendsTreeTokens (Ok tt) (special_double_tree (or_finite_text o c.args.pattern)) c.args.writer.now.tokens c.put_text.new.writer.tokens)
    c.in-Some.ensures c.in_ok-put_text-in-Some.ensures.put

pub returns-in_ok-put_text-in-Some-clause-room : goal.returns-in_ok-put_text-in-Some-clause-room
returns-in_ok-put_text-in-Some-clause-room c =
    subst (λ o. c.args.writer.now.spare ≤ c.put_text.new.writer.spare + written_tree_capacity (special_double_tree (or_finite_text o c.args.pattern)))
    c.in-Some.ensures c.in_ok-put_text-in-Some.ensures.room

pub returns-in_err-put_finite_double-in-None-clause-room : goal.returns-in_err-put_finite_double-in-None-clause-room
returns-in_err-put_finite_double-in-None-clause-room c =
    let it = c.in_err-put_finite_double-in-None.ensures.room in
    wanting _ _ _ _ (err_from_is_err_and c.from_residual-in_err-put_finite_double-in-None.result
    c.from_residual-in_err-put_finite_double-in-None.ensures.1)
    (subst (λ r. c.args.writer.now.spare < written_tree_capacity r)
    (sym (canonical_is c.args.pattern it.0 (sym c.in-None.ensures) c.in_err-put_finite_double-in-None.ensures.finite it.1)) it.2)

pub returns-in_ok-put_finite_double-in-None-clause-printed : goal.returns-in_ok-put_finite_double-in-None-clause-printed
returns-in_ok-put_finite_double-in-None-clause-printed c =
    let it = c.in_ok-put_finite_double-in-None.ensures.put in
    subst (λ r. AppendsTreeTokens (Ok tt) r c.args.writer.now.tokens c.put_finite_double.new.writer.tokens)
    (sym (canonical_is c.args.pattern it.0 (sym c.in-None.ensures) c.in_ok-put_finite_double-in-None.ensures.finite it.1)) it.2

pub returns-in_ok-put_finite_double-in-None-clause-room : goal.returns-in_ok-put_finite_double-in-None-clause-room
returns-in_ok-put_finite_double-in-None-clause-room c =
    let it = c.in_ok-put_finite_double-in-None.ensures.room in
    subst (λ r. c.args.writer.now.spare ≤ c.put_finite_double.new.writer.spare + written_tree_capacity r)
    (sym (canonical_is c.args.pattern it.0 (sym c.in-None.ensures) c.in_ok-put_finite_double-in-None.ensures.finite it.1)) it.2
