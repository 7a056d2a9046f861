use Rattle.std.proofs.Common.{◌∙◌}
use Rattle.bson_types.proofs.IdOrderParts.{slice_cmp-object_id_order}
use Rattle.bson_types.proofs.oid.ObjectIdOrd.cmp.Goals as goal

pub returns-clause-numbers : goal.returns-clause-numbers
returns-clause-numbers c =
    let same = rw (c.bytes.ensures.value, c.bytes-2.ensures.value) at c.cmp.ensures in
    same ∙ slice_cmp-object_id_order c.args.self.now c.args.other.now c.bytes.ensures.within_type_range c.bytes-2.ensures.within_type_range
