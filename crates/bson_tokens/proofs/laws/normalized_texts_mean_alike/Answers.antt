use Rattle.bson_tokens.proofs.ReadAlike.{meant, meant_in_order}
use Rattle.bson_tokens.proofs.laws.normalized_texts_mean_alike.Goals as goal

pub returns : goal.returns
returns c = record { in_order = meant_in_order; by_default = meant }
