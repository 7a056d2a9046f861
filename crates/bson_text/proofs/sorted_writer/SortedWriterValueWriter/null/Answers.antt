use Rattle.std.proofs.Common.{true, refl}
use Rattle.serde_json.specs.Data.{null}
use Rattle.bson_scalar.specs.Tokens.{tokens_of}
use Rattle.bson_text.proofs.Sorting.{part_added}
use Rattle.bson_text.proofs.sorted_writer.SortedWriterValueWriter.null.Goals as goal

pub returns-clause-written : goal.returns-clause-written
returns-clause-written c =
    let t = null in (
      t,
      refl,
      part_added c.args.self.now c.begin_fragment.new.self c.add_fragment.new.self true c.in_ok-fragment.fragment.tokens
          c.null.new.self.tokens (tokens_of t) c.in_ok-fragment.ensures.comma c.in_ok-add_fragment.ensures
          c.in_ok-fragment.ensures.empty.1 c.in_ok-null.ensures.ok,
    )
