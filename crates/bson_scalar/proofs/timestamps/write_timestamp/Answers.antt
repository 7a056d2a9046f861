use Rattle.bson_scalar.proofs.Appending.{if_ok}
use Rattle.bson_scalar.proofs.timestamps.write_timestamp.Goals as goal

pub returns-clause-written : goal.returns-clause-written
returns-clause-written g c =
    if_ok c.end_one_key_object.result c.end_one_key_object.ensures.written
    (λ t ends. ends c.args.sink.now c.begin_object.new.sink _ _ c.in_ok-key.ensures.written c.in_ok-parts_tree.ensures.written)
