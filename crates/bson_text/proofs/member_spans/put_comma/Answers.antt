use Rattle.std.proofs.Common.{arith}
use Rattle.bson_text.proofs.Utf8Texts.{byte_utf8, joined_utf8}
use Rattle.bson_text.proofs.member_spans.put_comma.Goals as goal

pub returns-in_ok-push-clause-utf8 : goal.returns-in_ok-push-clause-utf8
returns-in_ok-push-clause-utf8 c = λ u. joined_utf8 _ _ _ u (byte_utf8 44 (omega arith)) c.in_ok-push.ensures.items
