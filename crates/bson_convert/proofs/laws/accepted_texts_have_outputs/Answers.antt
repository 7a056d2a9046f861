use Rattle.bson_convert.proofs.Accepted.{has_output}
use Rattle.bson_convert.proofs.laws.accepted_texts_have_outputs.Goals as goal

pub returns : goal.returns
returns c = λ k o mode bytes. has_output o bytes k mode
