use Rattle.std.proofs.Common.{IsUtf8, subst, sym}
use Rattle.std.proofs.lemmas.Str.{IsUtf8-string_bytes}
use Rattle.bson_text.proofs.Utf8Texts.{joined_utf8}
use Rattle.bson_text.proofs.display_writer.DisplayWriter.add_scalar.Goals as goal

pub invariant_of-self-2 : goal.invariant_of-self-2
invariant_of-self-2 c = record {
  utf8 = joined_utf8 _ _ _ c.add_separator.new.self.utf8
      (subst IsUtf8 (sym c.as_bytes.ensures.value) (IsUtf8-string_bytes c.write.new.self)) c.in_ok-extend_from_slice.ensures.items;
}
