use Rattle.bson_bytes.proofs.Canonical.{written_one}
use Rattle.bson_bytes.proofs.laws.written_is_one.Goals as goal

pub returns : goal.returns
returns c = written_one
