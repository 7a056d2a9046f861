use Rattle.std.proofs.Common.{◌≡◌, ◌++◌, IfOk, string_bytes, append_assoc, codes, subst}
use Rattle.std.specs.Fmt.{decimal}
use Rattle.bson_codec.specs.Diagnostics.{line_feed}
use Rattle.bson_codec.proofs.run_end.text_line.Goals as goal

pub returns : goal.returns
returns c =
    subst (λ message. IfOk c.format.result (λ line. string_bytes line ≡ codes "document " ++ decimal c.args.document_number
    ++ codes " at byte " ++ decimal c.args.document_offset ++ codes ": " ++ message ++ line_feed))
    c.in_ok-message.ensures (simp append_assoc c.format.ensures.ok)
