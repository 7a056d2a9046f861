use Rattle.std.proofs.Common.{◌∙◌, sym}
use Rattle.std.proofs.lemmas.List.{length-map}
use Rattle.bson_program.proofs.SameLaws.{differ_sorted, same_from_sorted}
use Rattle.bson_program.proofs.compare_outputs.compare_unordered.Goals as goal

pub returns-in-None-clause-none : goal.returns-in-None-clause-none
returns-in-None-clause-none c = λ _.
    same_from_sorted c.args.first_lines.now c.args.second_lines.now c.sort_unstable.new.self c.sort_unstable-2.new.self
    c.sort_unstable.ensures.permutation c.sort_unstable-2.ensures.permutation (c.compare_lines.ensures.none c.in-None.is)

pub returns-in-Some-clause-some : goal.returns-in-Some-clause-some
returns-in-Some-clause-some c = (
  c.sort_unstable.ensures.len ∙ sym (length-map c.args.first_lines.now (λ line. line.now)),
  c.sort_unstable.ensures.len ∙ c.if-first_lines-second_lines.false ∙ sym (length-map c.args.second_lines.now (λ line. line.now)),
  differ_sorted c.args.first_lines.now c.args.second_lines.now c.sort_unstable.new.self c.sort_unstable-2.new.self c.in-Some.field-0
      c.sort_unstable.ensures.permutation c.sort_unstable-2.ensures.permutation c.sort_unstable.ensures.sorted
      c.sort_unstable-2.ensures.sorted c.in-Some.ensures.some,
)
