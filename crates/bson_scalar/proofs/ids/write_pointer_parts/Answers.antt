use Rattle.std.proofs.Common.{refl}
use Rattle.bson_scalar.proofs.Appending.{if_ok}
use Rattle.bson_scalar.proofs.ids.write_pointer_parts.Goals as goal

pub returns-clause-written : goal.returns-clause-written
returns-clause-written g c =
    let second_key = c.in_ok-second_key.ensures.written c.args.sink.now c.begin_object.new.sink _ _ c.in_ok-key.ensures.written
    c.in_ok-id.ensures.written in
    if_ok c.end_two_key_object.result c.end_two_key_object.ensures.written
    (λ t ends. ends c.args.sink.now c.begin_second_member.new.sink _ _ _ _ second_key c.in_ok-namespace.ensures.written refl)
