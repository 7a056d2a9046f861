use Rattle.bson_text.proofs.Utf8Texts.{byte_utf8, joined_utf8}
use Rattle.bson_text.proofs.sorted_writer.SortedWriter.add_byte.Goals as goal

pub invariant_of-self-2 : goal.invariant_of-self-2
invariant_of-self-2 c = record {
  utf8 = joined_utf8 _ _ _ c.args.self.now.utf8 (byte_utf8 c.args.byte c.requires) c.in_ok-push.ensures.items;
}
