use Rattle.std.proofs.Common.{append_assoc}
use Rattle.vbson.proofs.document_error.malformed_message.Goals as goal

pub returns : goal.returns
returns c = simp append_assoc c.format.ensures.ok
