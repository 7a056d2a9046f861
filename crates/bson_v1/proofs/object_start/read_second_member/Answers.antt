use Rattle.std.proofs.lemmas.Result.{err_from_is_err_and}
use Rattle.bson_v1.specs.declared.object_start.LeadingStrings.TheVariants.{One}
use Rattle.bson_v1.proofs.Beginnings.{none_inside, open_next, whole_next}
use Rattle.bson_v1.proofs.object_start.read_second_member.Goals as goal

pub returns-in_err-second_key-clause-broken : goal.returns-in_err-second_key-clause-broken
returns-in_err-second_key-clause-broken c =
    let p = err_from_is_err_and c.from_residual.result c.from_residual.ensures.1 in
    rw (p.1, p.2) (λ broken depth. none_inside depth (One c.args.key c.args.text) c.args.reader.now
    (c.in_err-second_key.ensures.broken broken depth))

pub returns-in_default-clause-ok : goal.returns-in_default-clause-ok
returns-in_default-clause-ok c =
    whole_next (One c.args.key c.args.text) c.args.reader.now c.next_member.new.reader c.in_ok-second_key.field-0
    c.in_default.is c.in_ok-second_key.ensures.ok

pub returns-in_default-first_token-clause-ok : goal.returns-in_default-first_token-clause-ok
returns-in_default-first_token-clause-ok c =
    open_next (One c.args.key c.args.text) c.in-Some.second_key c.in-Some.first_token c.args.reader.now c.next_member.new.reader
    c.in_ok-second_key.field-0 c.in-Some.is c.in_default-first_token.not-String c.in_ok-second_key.ensures.ok
