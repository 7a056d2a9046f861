use Rattle.bson_tokens.proofs.ReadAlike.{text_kept, text_read}
use Rattle.bson_tokens.proofs.laws.normalized_texts_read_alike.Goals as goal

pub returns : goal.returns
returns c = record { in_order = text_kept; by_default = text_read }
