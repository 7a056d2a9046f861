use Rattle.bson_codec.proofs.Utf8.{dump_utf8}
use Rattle.bson_codec.proofs.laws.dumps_are_utf8.Goals as goal

pub returns : goal.returns
returns c = λ run bytes output diagnostics_before number refused d. dump_utf8 d
