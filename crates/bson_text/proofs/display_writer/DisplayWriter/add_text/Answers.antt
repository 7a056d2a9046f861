use Rattle.bson_text.proofs.Utf8Texts.{joined_utf8}
use Rattle.bson_text.proofs.display_writer.DisplayWriter.add_text.Goals as goal

pub invariant_of-self-2 : goal.invariant_of-self-2
invariant_of-self-2 c = record {
  utf8 = joined_utf8 _ _ _ c.args.self.now.utf8 c.as_bytes.ensures.utf8 c.in_ok-extend_from_slice.ensures.items;
}
