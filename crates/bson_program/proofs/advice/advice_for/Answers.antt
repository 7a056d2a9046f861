use Rattle.std.proofs.Common.{inr}
use Rattle.std.proofs.lemmas.Option.{IfSome_then}
use Rattle.bson_program.proofs.Advising.{part_of_part, within}
use Rattle.bson_program.proofs.advice.advice_for.Goals as goal

pub returns-in-Err-Text : goal.returns-in-Err-Text
returns-in-Err-Text c = IfSome_then c.first_advice.result c.first_advice.ensures (λ it helps. inr (within c.args.invocation.now
    c.without_cut_off_end.result.now c.args.first_bytes.now it (part_of_part c.without_cut_off_end.result.now c.without_byte_order_mark.result.now c.args.first_bytes.now c.without_cut_off_end.ensures c.without_byte_order_mark.ensures) helps))
