use Rattle.std.proofs.Common.{◌≡◌}
use Rattle.bson_tokens.specs.KeyPrefix.{key_prefix_number}
use Rattle.bson_tokens.proofs.key_prefix.prefix_of.Given as goal

abbrev pub invariant-bytes : goal.invariant-bytes
invariant-bytes l = l.prefix ≡ key_prefix_number l.key l.byte_index
