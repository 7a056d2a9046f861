use Rattle.std.proofs.Common.{inr}
use Rattle.bson_types.proofs.ClearedBits.{only_one-unchanged}
use Rattle.bson_types.proofs.VectorLaws.{only_one-read, parts, short}
use Rattle.bson_types.proofs.vector.Vector.from_bytes_clearing.Goals as goal

pub returns-in_default-clause-refused : goal.returns-in_default-clause-refused
returns-in_default-clause-refused c = inr (tt, short c.args.bytes.now c.in_default.len_below)

pub returns-in-len2-up-clause-only_vector : goal.returns-in-len2-up-clause-only_vector
returns-in-len2-up-clause-only_vector c =
    let whole = parts c.args.bytes.now c.in-len2-up.len_at_least in
    only_one-unchanged c.read_numbers.result c.args.bytes.now (rw whole at c.read_numbers.ensures.ok) c.read_numbers.ensures.within_type_range

pub returns-in-len2-up-clause-same_as_from_bytes : goal.returns-in-len2-up-clause-same_as_from_bytes
returns-in-len2-up-clause-same_as_from_bytes c =
    let whole = parts c.args.bytes.now c.in-len2-up.len_at_least in
    only_one-read c.read_numbers.result c.args.bytes.now (rw whole at c.read_numbers.ensures.ok) c.read_numbers.ensures.within_type_range
