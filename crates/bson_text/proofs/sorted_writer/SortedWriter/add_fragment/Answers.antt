use Rattle.std.proofs.Common.{◌++◌, ap, ◌∙◌, sym, subst, IsUtf8}
use Rattle.json.specs.Print.{print}
use Rattle.bson_text.proofs.Utf8Texts.{joined_utf8}
use Rattle.bson_text.proofs.sorted_writer.SortedWriter.add_fragment.Goals as goal

pub invariant_of-self-2 : goal.invariant_of-self-2
invariant_of-self-2 c =
    let fragment = c.deref.ensures.value ∙ c.into_inner.ensures.items ∙ ap (λ l. l ++ print c.args.fragment.tokens) c.requires in
    record {
      utf8 = joined_utf8 _ _ _ c.args.self.now.utf8 (subst IsUtf8 (sym fragment) c.into_inner.ensures.utf8)
          c.in_ok-extend_from_slice.ensures.items;
    }
