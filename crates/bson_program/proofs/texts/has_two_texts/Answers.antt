use Rattle.std.proofs.Common.{arith, sym, ◌∙◌}
use Rattle.std.proofs.lemmas.Bool.Decides.{nat_tests}
use Rattle.bson_program.proofs.TextParts.{counts_one, less_than_two}
use Rattle.bson_program.proofs.texts.has_two_texts.Goals as goal

pub returns : goal.returns
returns c = less_than_two c.args.content.now c.loop-remaining_bytes.remaining_bytes.now c.loop-remaining_bytes.has_first_text (grind (arith, nat_tests)) c.loop-remaining_bytes.invariant

pub loop-remaining_bytes-preserved-else-has_first_text : goal.loop-remaining_bytes-preserved-else-has_first_text
loop-remaining_bytes-preserved-else-has_first_text c =
    counts_one c.args.content.now c.loop-remaining_bytes.remaining_bytes.now c.split_text.result.0.now c.split_text.result.1.now
    c.split_text.ensures.texts c.split_text.ensures.separator c.loop-remaining_bytes.has_first_text c.if-has_first_text.false
    (sym c.is_text.ensures ∙ c.if-is_text.true) c.loop-remaining_bytes.invariant
