use Rattle.serde_json.specs.Data.{string}
use Rattle.std.proofs.Common.{string_bytes}
use Rattle.bson_scalar.proofs.Appending.{if_ok}
use Rattle.bson_scalar.proofs.object_writer.write_two_texts_object.Goals as goal

pub returns-clause-written : goal.returns-clause-written
returns-clause-written g c =
    let one = string (string_bytes c.args.text) in
    let two = string (string_bytes c.args.second_text) in
    let next = c.in_ok-begun_key-2.ensures.written c.args.sink.now c.begin_object.new.sink c.args.key.now one
    c.in_ok-begun_key.ensures.written c.in_ok-text.ensures.written in
    if_ok c.end_two_key_object.result c.end_two_key_object.ensures.written
    (λ t ends. ends c.args.sink.now c.begin_second_member.new.sink c.args.key.now c.args.second_key_name.now one two next
    c.in_ok-text-2.ensures.written (c.requires one two))
