use Rattle.std.specs.Prelude.{◌-◌, drop, length, take}
use Rattle.bson_program.proofs.Advising.{all_of, end_of, part_of_part, start_of}
use Rattle.bson_program.proofs.advice.without_byte_order_mark.Goals as goal

pub returns-then-starts_with : goal.returns-then-starts_with
returns-then-starts_with c =
    let bytes = c.args.first_bytes.now in
    part_of_part (take (length bytes - 3) (drop 3 bytes)) (drop 3 bytes) bytes (start_of (length bytes - 3) (drop 3 bytes))
    (end_of 3 bytes)

pub returns-else-starts_with : goal.returns-else-starts_with
returns-else-starts_with c = all_of c.args.first_bytes.now
