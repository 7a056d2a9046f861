use Rattle.bson_double.proofs.Exists.{has_shortest}
use Rattle.bson_double.proofs.Only.{one_decimal}
use Rattle.bson_double.proofs.laws.one_shortest_decimal.Goals as goal

pub returns-clause-one : goal.returns-clause-one
returns-clause-one c = one_decimal

pub returns-clause-exists : goal.returns-clause-exists
returns-clause-exists c = λ p some small finite. has_shortest p (record { some = some; small = small; finite = finite })

pub returns-clause-few_digits : goal.returns-clause-few_digits
returns-clause-few_digits c = λ p d k c' j read higher s. s.highest c' j higher read
