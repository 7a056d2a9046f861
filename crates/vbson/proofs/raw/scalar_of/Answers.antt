use Rattle.vbson.proofs.RawValues.{no_kind, read_at}
use Rattle.vbson.proofs.raw.scalar_of.Goals as goal

pub returns-in_default : goal.returns-in_default
returns-in_default c = λ d v h. absurd (no_kind d v c.args.value.now c.from.result c.from.ensures c.in_default.is h)

pub returns : goal.returns
returns c =
    λ d v h. c.read_scalar_value.ensures d v _ (read_at d v c.args.value.now c.from.result c.in-Some.kind c.from.ensures c.in-Some.is h)
