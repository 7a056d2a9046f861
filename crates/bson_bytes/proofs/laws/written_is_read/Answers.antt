use Rattle.bson_bytes.proofs.Canonical.{written_read}
use Rattle.bson_bytes.proofs.laws.written_is_read.Goals as goal

pub returns : goal.returns
returns c = written_read
