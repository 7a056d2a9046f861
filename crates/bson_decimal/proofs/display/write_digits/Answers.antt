use Rattle.std.proofs.Common.{◌≡◌, ◌+◌, ◌-◌, ◌%◌, ◌^◌, ◌<◌, ◌≤◌, ℕ, zero, suc, arith, append-nil, append_assoc}
use Rattle.std.proofs.lemmas.Fmt.{decimal_step_wide, decimal_digit}
use Rattle.std.proofs.lemmas.Nat.{pow-add}
use Rattle.std.proofs.lemmas.List.{drop-set, drop_all, length-set}
use Rattle.bson_decimal.proofs.display.write_digits.Goals as goal

positive : (at remaining_coefficient : ℕ) → 10 ≤ remaining_coefficient → remaining_coefficient < 10 ^ (at + 1) → 0 < at
positive zero remaining_coefficient low high = absurd (omega arith)
positive (suc at) remaining_coefficient low high = omega arith

pub loop-remaining_coefficient-init : goal.loop-remaining_coefficient-init
loop-remaining_coefficient-init c = (omega arith, omega arith, c.requires, rw (drop_all 34 c.args.buffer.now (omega arith), append-nil))

pub loop-remaining_coefficient-preserved : goal.loop-remaining_coefficient-preserved
loop-remaining_coefficient-preserved c =
    let l = c.loop-remaining_coefficient in
    let above = positive l.digit_index l.remaining_coefficient (omega arith) l.invariant.2 in
    let e : l.digit_index - 1 + 1 ≡ l.digit_index = omega arith in (
      omega arith,
      omega (arith, length-set l.buffer l.digit_index (48 + l.remaining_coefficient % 10)),
      rw e (omega (arith, pow-add 10 l.digit_index 1)),
      rw (e, drop-set l.buffer l.digit_index (48 + l.remaining_coefficient % 10) (omega arith))
          (rw (decimal_step_wide l.remaining_coefficient (omega arith) (omega (arith, l.auto.remaining_coefficient-fits.fits)), append_assoc) at
          l.invariant.3),
    )

pub returns-clause-written : goal.returns-clause-written
returns-clause-written c =
    let l = c.loop-remaining_coefficient in
    rw (drop-set l.buffer l.digit_index (48 + l.remaining_coefficient) (omega arith)) (rw (decimal_digit l.remaining_coefficient (omega arith)) at l.invariant.3)
