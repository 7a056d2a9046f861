use Rattle.bson_codec.proofs.OneDump.{one_dump}
use Rattle.bson_codec.proofs.laws.one_dump.Goals as goal

pub returns : goal.returns
returns c = one_dump
