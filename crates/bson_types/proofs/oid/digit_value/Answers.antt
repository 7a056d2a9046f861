use Rattle.std.proofs.Common.{arith}
use Rattle.bson_types.proofs.DigitTable.{table_value}
use Rattle.bson_types.proofs.oid.digit_value.Goals as goal

pub returns : goal.returns
returns c = table_value c.args.byte (omega arith)
