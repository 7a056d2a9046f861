use Rattle.std.proofs.Common.{refl}
use Rattle.serde_json.specs.Data.{no_members}
use Rattle.bson_scalar.proofs.Appending.{if_ok}
use Rattle.bson_scalar.proofs.object_writer.end_one_key_object.Goals as goal

pub returns-clause-written : goal.returns-clause-written
returns-clause-written g c =
    if_ok c.end_map.result c.end_map.ensures.written
    (λ t ends start mid k d begun_key content. ends start _
    (c.in_ok-map.ensures.written start mid no_members k d begun_key content refl))
