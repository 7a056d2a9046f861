use Rattle.std.proofs.Common.{◌≡◌}
use Rattle.bson_types.proofs.UuidWriting.{written_text}
use Rattle.bson_types.proofs.uuid_value.UuidDisplay.fmt.Goals as goal

pub returns-clause-writes : goal.returns-clause-writes
returns-clause-writes g c =
    let text = written_text c.args.self.now c.bytes.ensures.within_type_range in
    rw (← text, ← c.bytes.ensures.value, ← c.from_bytes.ensures) c.fmt.ensures.writes
