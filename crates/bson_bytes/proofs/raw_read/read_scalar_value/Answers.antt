use Rattle.std.proofs.Common.{ap}
use Rattle.bson_bytes.specs.NestedValues.{is_nested_type}
use Rattle.bson_bytes.specs.ReadElements.{without_rest}
use Rattle.bson_bytes.proofs.Scalars.{scalar_is, scalar_none}
use Rattle.bson_bytes.proofs.raw_read.read_scalar_value.Goals as goal

pub returns-in-Ok : goal.returns-in-Ok
returns-in-Ok c =
    λ d v rest e. scalar_is (is_nested_type c.args.element_type) _ v _ (c.in-Ok.ensures.scalar d) c.in-Ok.ensures.nested (ap without_rest e)

pub returns-in-Err : goal.returns-in-Err
returns-in-Err c =
    λ d v rest e. scalar_none d c.args.element_type c.args.bytes.now v rest _ (c.in-Err.ensures.scalar d) e
