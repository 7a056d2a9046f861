use Rattle.bson_types.proofs.VectorLaws.{int8_held_ok}
use Rattle.bson_types.proofs.vector.Vector.to_bytes.Goals as goal

pub returns-in-Int8-clause-within_type_range : goal.returns-in-Int8-clause-within_type_range
returns-in-Int8-clause-within_type_range c =
    let are = rw c.as_slice.ensures.value at c.int8_bytes.ensures.range in
    rw c.in-Int8.is (int8_held_ok c.int8_bytes.result c.in-Int8.items.items are)
