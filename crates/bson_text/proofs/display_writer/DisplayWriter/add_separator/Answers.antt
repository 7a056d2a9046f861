use Rattle.std.proofs.Common.{codes, refl}
use Rattle.json.proofs.Printed.Utf8.{IsUtf8-are_ascii}
use Rattle.bson_text.proofs.Utf8Texts.{extended_utf8}
use Rattle.bson_text.proofs.display_writer.DisplayWriter.add_separator.Goals as goal

pub invariant_of-self : goal.invariant_of-self
invariant_of-self c = record {
  utf8 = extended_utf8 _ _ _ _ c.args.self.now.utf8 (IsUtf8-are_ascii (codes ", ") refl) c.extend_from_slice.ensures.items;
}
