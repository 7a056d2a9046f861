use Rattle.std.proofs.Common.{length}
use Rattle.bson_text.proofs.lookahead.codes_after_scopes.Given as goal

abbrev pub decreases-tokens : goal.decreases-tokens
decreases-tokens l = length l.reader
