use Rattle.std.proofs.lemmas.Option.{IfSome_then}
use Rattle.bson_program.proofs.Advising.{goes_on, is_part}
use Rattle.bson_program.proofs.advice.first_advice.Goals as goal

pub returns-in-Err : goal.returns-in-Err
returns-in-Err c = IfSome_then c.advice_for_error.result c.advice_for_error.ensures (λ it helps. (
  c.in-Err.fault,
  c.next_text.result.0.now,
  is_part c.args.first_bytes.now c.loop-remaining_bytes.remaining_bytes.now c.next_text.result.0.now c.next_text.result.1.now c.next_text.ensures.split
      c.loop-remaining_bytes.invariant,
  c.in-Err.ensures.fault,
  helps,
))

pub loop-remaining_bytes-preserved-in_default : goal.loop-remaining_bytes-preserved-in_default
loop-remaining_bytes-preserved-in_default c =
    goes_on c.args.first_bytes.now c.loop-remaining_bytes.remaining_bytes.now c.next_text.result.0.now c.next_text.result.1.now
    c.next_text.ensures.split c.loop-remaining_bytes.invariant

pub loop-remaining_bytes-preserved : goal.loop-remaining_bytes-preserved
loop-remaining_bytes-preserved c =
    goes_on c.args.first_bytes.now c.loop-remaining_bytes.remaining_bytes.now c.next_text.result.0.now c.next_text.result.1.now
    c.next_text.ensures.split c.loop-remaining_bytes.invariant
