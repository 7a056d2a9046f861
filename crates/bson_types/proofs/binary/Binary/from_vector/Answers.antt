use Rattle.std.proofs.Common.{sym}
use Rattle.bson_types.proofs.VectorLaws.{only_held, only_one}
use Rattle.bson_types.proofs.binary.Binary.from_vector.Goals as goal

pub returns-clause-only_vector : goal.returns-clause-only_vector
returns-clause-only_vector c =
    λ range. only_one c.args.vector.now c.in_ok-bytes.bytes.items range (sym c.in_ok-bytes.ensures.bytes)

pub returns-clause-only_in_range : goal.returns-clause-only_in_range
returns-clause-only_in_range c =
    let are = rw c.as_slice.ensures.value at c.bytes_are_below_256.ensures in
    only_held c.args.vector.now c.in_ok-bytes.bytes.items are c.in_ok-bytes.ensures.within_type_range
    (sym c.in_ok-bytes.ensures.bytes)
