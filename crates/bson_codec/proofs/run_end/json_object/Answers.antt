use Rattle.std.proofs.Common.{◌≡◌, ◌∙◌, ap, rules}
use Rattle.std.specs.Prelude.{string_bytes}
use Rattle.bson_codec.specs.Diagnostics.{document_tokens, json_line}
use Rattle.bson_codec.proofs.run_end.json_object.Goals as goal

pub returns : goal.returns
returns c =
    let tokens : c.write_message.new.writer.tokens ≡ document_tokens c.args.document_number c.args.document_offset c.args.fault =
    search rules in
    let written : string_bytes c.push_str.new.self ≡ json_line c.write_message.new.writer.tokens = search rules in
    written ∙ ap json_line tokens
