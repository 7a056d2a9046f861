use Rattle.bson_types.proofs.Sorting.{sorted-ascending_numbers}
use Rattle.bson_types.proofs.regex.in_ascending_order.Goals as goal

pub returns : goal.returns
returns c = sorted-ascending_numbers _ _ c.sort_unstable.ensures.permutation c.sort_unstable.ensures.sorted
