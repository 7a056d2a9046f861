use Rattle.serde_json.specs.Data.{no_members, member}
use Rattle.bson_scalar.proofs.Appending.{if_ok}
use Rattle.bson_scalar.proofs.object_writer.end_two_key_object.Goals as goal

pub returns-clause-written : goal.returns-clause-written
returns-clause-written g c =
    if_ok c.end_map.result c.end_map.ensures.written
    (λ t ends start mid k l d e begun_key content last. ends start _
    (c.in_ok-map.ensures.written start mid (member k d no_members) l e begun_key content last))
