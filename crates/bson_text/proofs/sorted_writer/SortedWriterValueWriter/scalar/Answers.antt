use Rattle.std.proofs.Common.{true, sym, ap, ◌∙◌, subst}
use Rattle.bson_scalar.specs.Tokens.{tokens_of, AppendsTreeTokens}
use Rattle.bson_scalar.specs.View.{scalar_view}
use Rattle.bson_scalar.specs.Written.{writes_scalar_in}
use Rattle.bson_text.proofs.Sorting.{part_added, printed, was_ok}
use Rattle.bson_text.proofs.sorted_writer.SortedWriterValueWriter.scalar.Goals as goal

pub returns-clause-written : goal.returns-clause-written
returns-clause-written c =
    let near = c.begin_fragment.new.self in
    let x = scalar_view c.args.value in
    let comma = c.in_ok-fragment.ensures.comma in
    let put =
    subst (λ r. AppendsTreeTokens r (writes_scalar_in near.doubles near.form x) c.in_ok-fragment.fragment.tokens c.print_scalar_in.new.sink.tokens)
    (was_ok _ c.print_scalar_in.result c.map_err.result tt c.map_err.ensures.cases c.in_ok-map_err.was)
    c.print_scalar_in.ensures.printed in
    let (t, written, tokens) = printed (writes_scalar_in near.doubles near.form x) c.in_ok-fragment.fragment.tokens
    c.print_scalar_in.new.sink.tokens put in (
      t,
      ap (λ D. writes_scalar_in D c.args.self.now.form x) (sym comma.0)
          ∙ ap (λ f. writes_scalar_in near.doubles f x) (sym comma.1) ∙ written,
      part_added c.args.self.now near c.add_fragment.new.self true c.in_ok-fragment.fragment.tokens
          c.print_scalar_in.new.sink.tokens (tokens_of t) comma c.in_ok-add_fragment.ensures
          c.in_ok-fragment.ensures.empty.1 tokens,
    )
