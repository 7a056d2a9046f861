use Rattle.std.proofs.Common.{◌≡◌, suc, ◌/◌, get_or-take, take, ◌<◌, ◌+◌, ◌-◌, ◌*◌, ◌^◌, ◌≤◌, length, get_or, ◌∙◌}
use Rattle.std.proofs.Common.{arith, length-take}
use Rattle.std.proofs.lemmas.List.{at_drop_all}
use Rattle.std.proofs.Math.Nat.{mul-le-mul_right}
use Rattle.jiff_fmt.specs.Reader.{fraction_value}
use Rattle.bson_datetime.proofs.ReaderLemmas.{fraction_value-nil, fraction_value-drop, fraction_value-take, tenth}
use Rattle.bson_datetime.proofs.ReaderLemmas.{ten_pow-pos}
use Rattle.bson_datetime.proofs.rfc3339.nanoseconds.Goals as goal

pub digits-preserved : goal.digits-preserved
digits-preserved c =
    let l = c.digits in
    let ds = take c.min.result c.args.digits.now in
    let short : length ds ≤ 9 = l.invariant.2 in
    let j = 9 - (l.digit-index + 1) in
    let next : 9 - l.digit-index ≡ suc j = omega arith in
    let power = 10 ^ j in
    let place_value : l.place_value / 10 ≡ power = omega (arith, tenth _ j next) in
    let i = l.digit-index in
    let within : i < c.min.result = omega (arith, length-take c.min.result c.args.digits.now) in
    let read : get_or ds i 0 ≡ get_or c.args.digits.now i 0 = get_or-take _ _ i 0 within in
    let digit : get_or ds i 0 - 48 ≤ 9 =
    omega (arith, c.requires i (omega (arith, length-take c.min.result c.args.digits.now))) in
    let worth : (get_or ds i 0 - 48) * (l.place_value / 10) ≤ 9 * (l.place_value / 10) = mul-le-mul_right _ digit in
    let step = fraction_value-drop _ j ds l.digit-index next c.digits-test.true in
    let same : (get_or ds i 0 - 48) * (l.place_value / 10) ≡ (get_or ds l.digit-index 0 - 48) * power = rw place_value in
    (place_value, omega arith, short, omega arith)

pub returns-clause-value : goal.returns-clause-value
returns-clause-value c =
    let none = at_drop_all (fraction_value (9 - c.digits.digit-index)) _ _ c.digits-test.false ∙ fraction_value-nil _ in
    omega (arith, none, fraction_value-take 9 c.min.result c.args.digits.now c.min.ensures)

pub returns-clause-bound : goal.returns-clause-bound
returns-clause-bound c = omega (arith, ten_pow-pos (9 - c.digits.digit-index))
