use Rattle.bson_tokens.proofs.Again.{no_deeper}
use Rattle.bson_tokens.proofs.Once.{unique, twice}
use Rattle.bson_tokens.proofs.laws.normalized_once.Goals as goal

pub returns : goal.returns
returns c = record { unique = unique; no_deeper = no_deeper; normalized_again = twice }
