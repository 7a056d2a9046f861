use Rattle.std.proofs.lemmas.Result.{err_from_is_err_and}
use Rattle.bson_v1.proofs.Beginnings.{none_inside, open_next, two_open, whole_next}
use Rattle.bson_v1.proofs.object_start.read_third_member.Goals as goal

pub returns-in_err-key-clause-broken : goal.returns-in_err-key-clause-broken
returns-in_err-key-clause-broken c =
    let p = err_from_is_err_and c.from_residual.result c.from_residual.ensures.1 in
    rw (p.1, p.2) (λ broken depth. none_inside depth c.args.leading c.args.reader.now
    (c.in_err-key.ensures.broken broken depth))

pub returns-in_default-clause-ok : goal.returns-in_default-clause-ok
returns-in_default-clause-ok c =
    whole_next c.args.leading c.args.reader.now c.next_member.new.reader c.in_ok-key.field-0 c.in_default.is
    c.in_ok-key.ensures.ok

pub returns-clause-ok : goal.returns-clause-ok
returns-clause-ok c =
    open_next c.args.leading c.in-Some.key c.in-Some.first_token c.args.reader.now c.next_member.new.reader
    c.in_ok-key.field-0 c.in-Some.is (two_open c.args.leading c.in-Some.first_token c.requires) c.in_ok-key.ensures.ok
