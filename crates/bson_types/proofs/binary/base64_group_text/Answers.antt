use Rattle.std.proofs.Common.{◌∙◌}
use Rattle.std.proofs.lemmas.Str.{IsUtf8-from_ascii}
use Rattle.base64.specs.Engines.{standard}
use Rattle.base64.proofs.EngineFacts.{IsAscii-encode_of}
use Rattle.bson_types.proofs.Base64Laws.{padded}
use Rattle.bson_types.proofs.binary.base64_group_text.Goals as goal

pub unreachable-requires : goal.unreachable-requires
unreachable-requires c =
    c.in-Err.ensures.cases.0
    (rw c.base64_group_bytes.ensures (IsUtf8-from_ascii _ (IsAscii-encode_of standard c.args.bytes.now)))

pub returns : goal.returns
returns c = c.in-Ok.ensures.cases.0 ∙ c.base64_group_bytes.ensures ∙ padded c.args.bytes.now
