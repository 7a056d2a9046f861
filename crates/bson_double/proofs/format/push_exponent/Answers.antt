use Rattle.std.proofs.Common.{rules, arith, ◌≤◌, length}
use Rattle.std.proofs.lemmas.Fmt.{length-decimal-le}
use Rattle.bson_double.proofs.format.push_exponent.Goals as goal

pub push_str-requires-then-point_position-lt1101 : goal.push_str-requires-then-point_position-lt1101
push_str-requires-then-point_position-lt1101 c =
    let from = c.requires.point_position.0 in
    let short : length c.format.result.now ≤ 3 =
    rw c.format.ensures.text (length-decimal-le 3 _ (omega arith) (omega arith) (omega arith)) in
    search (rules, short, c.push_str.ensures.len, c.requires.room)

pub push_str-requires-else-point_position-lt1101-2 : goal.push_str-requires-else-point_position-lt1101-2
push_str-requires-else-point_position-lt1101-2 c =
    let to = c.requires.point_position.1 in
    let short : length c.format-else-point_position-lt1101.result.now ≤ 3 =
    rw c.format-else-point_position-lt1101.ensures.text (length-decimal-le 3 _ (omega arith) (omega arith) (omega arith)) in
    search (rules, short, c.push_str-else-point_position-lt1101.ensures.len, c.requires.room)
