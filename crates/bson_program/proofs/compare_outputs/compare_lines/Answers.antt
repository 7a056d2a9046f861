use Rattle.std.proofs.Common.{◌∙◌, arith, refl, sym}
use Rattle.bson_program.proofs.SameLaws.{differ_here, same_more}
use Rattle.bson_program.proofs.compare_outputs.compare_lines.Goals as goal

pub returns-then-ne-clause-some : goal.returns-then-ne-clause-some
returns-then-ne-clause-some c = (
  c.loop-line_index.line_index,
  refl,
  differ_here c.args.first_lines.now c.args.second_lines.now c.loop-line_index.line_index _ (omega arith) (omega arith) (sym c.ne.ensures ∙ c.if-ne.true)
      c.loop-line_index.invariant,
)

pub loop-line_index-preserved : goal.loop-line_index-preserved
loop-line_index-preserved c =
    same_more c.args.first_lines.now c.args.second_lines.now c.loop-line_index.line_index _ (omega arith) (omega arith) (sym c.ne.ensures ∙ c.if-ne.false)
    c.loop-line_index.invariant
