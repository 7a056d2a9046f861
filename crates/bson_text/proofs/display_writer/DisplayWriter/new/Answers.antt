use Rattle.bson_text.proofs.Utf8Texts.{nothing_utf8}
use Rattle.bson_text.proofs.display_writer.DisplayWriter.new.Goals as goal

pub invariant_of-result : goal.invariant_of-result
invariant_of-result c = record { utf8 = nothing_utf8 _ c.in_ok-with_capacity.ensures.items }
