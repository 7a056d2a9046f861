use Rattle.std.proofs.Common.{codes}
use Rattle.serde_json.specs.Data.{string}
use Rattle.bson_types.specs.DbPointer.{pointer_namespace, pointer_id}
use Rattle.bson_scalar.specs.Ids.{oid_tree}
use Rattle.bson_scalar.specs.TreeParts.{two_key_object}
use Rattle.bson_scalar.proofs.Appending.{if_ok}
use Rattle.bson_scalar.proofs.ids.write_pointer.Goals as goal

pub returns-clause-written : goal.returns-clause-written
returns-clause-written g c =
    let it = c.args.pointer in
    let parts = c.into_parts-namespace.ensures in
    let content = two_key_object (codes "$id") (oid_tree (pointer_id it)) (codes "$ref") (string (pointer_namespace it)) in
    if_ok c.end_one_key_object.result c.end_one_key_object.ensures.written
    (λ t ends. ends c.args.sink.now c.begin_object.new.sink (codes "$dbPointer") content c.in_ok-key.ensures.written
    (rw (parts.namespace, parts.id) at c.in_ok-parts_tree.ensures.written))
