use Rattle.std.proofs.Common.{◌&&◌, ap, inr}
use Rattle.bson_types.specs.VectorBytes.{has_zero_ignored_bits}
use Rattle.bson_types.proofs.VectorLaws.{only_one-read, parts, short}
use Rattle.bson_types.proofs.VectorMeaning.{vector_meaning}
use Rattle.bson_types.proofs.vector.Vector.from_bytes.Goals as goal

pub returns-in_default-clause-refused : goal.returns-in_default-clause-refused
returns-in_default-clause-refused c =
    inr (tt, ap (λ b. b && has_zero_ignored_bits c.args.bytes.now) (short c.args.bytes.now c.in_default.len_below))

pub returns-in-len2-up-clause-only_vector : goal.returns-in-len2-up-clause-only_vector
returns-in-len2-up-clause-only_vector c =
    let whole = parts c.args.bytes.now c.in-len2-up.len_at_least in
    only_one-read c.read_numbers.result c.args.bytes.now (rw whole at c.read_numbers.ensures.ok) c.read_numbers.ensures.within_type_range

pub returns-in-len2-up-clause-meaning : goal.returns-in-len2-up-clause-meaning
returns-in-len2-up-clause-meaning c = vector_meaning c.args.bytes.now (λ i. (c.type_inv.bytes i).fits)
