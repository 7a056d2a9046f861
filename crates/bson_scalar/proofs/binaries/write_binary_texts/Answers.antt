use Rattle.std.proofs.Common.{codes, string_bytes}
use Rattle.serde_json.specs.Data.{string}
use Rattle.bson_scalar.specs.TreeParts.{two_key_object}
use Rattle.bson_scalar.proofs.Appending.{if_ok}
use Rattle.bson_scalar.proofs.binaries.write_binary_texts.Goals as goal

pub returns-clause-written : goal.returns-clause-written
returns-clause-written g c =
    let it = c.args.texts in
    let content = two_key_object (codes "base64") (string (string_bytes it.base64)) (codes "subType")
    (string (string_bytes it.subtype)) in
    if_ok c.end_one_key_object.result c.end_one_key_object.ensures.written
    (λ t ends. ends c.args.sink.now c.begin_object.new.sink (codes "$binary") content c.in_ok-key.ensures.written
    c.in_ok-texts.ensures.written)
