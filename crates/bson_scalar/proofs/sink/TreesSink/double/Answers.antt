use Rattle.std.proofs.Common.{◌∙◌, refl, rules}
use Rattle.bson_double.proofs.Offered.{finite_value, not_nan_bits}
use Rattle.bson_scalar.proofs.sink.TreesSink.double.Goals as goal

pub float_from_bits-pattern : goal.float_from_bits-pattern
float_from_bits-pattern c = not_nan_bits c.args.pattern c.requires

pub returns-clause-written : goal.returns-clause-written
returns-clause-written c = c.from.ensures ∙ rw (finite_value c.args.pattern (search (rules, c.ranges)) c.requires) refl
