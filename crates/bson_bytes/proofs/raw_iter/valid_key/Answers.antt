use Rattle.bson_bytes.proofs.raw_iter.valid_key.Goals as goal

pub unreachable-requires : goal.unreachable-requires
unreachable-requires c = c.in-Err.ensures.cases.0 c.requires
