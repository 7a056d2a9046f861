use Rattle.std.proofs.Common.{arith}
use Rattle.bson_store.proofs.SortedPlaces.{after-behind, after-before}
use Rattle.bson_store.proofs.sorted_index.shifted_position.Goals as goal

pub returns-then-removed_position-position : goal.returns-then-removed_position-position
returns-then-removed_position-position c = after-behind c.args.removed_position c.args.position c.if-removed_position-position.true

pub returns : goal.returns
returns c = after-before c.args.removed_position c.args.position (omega (arith, c.if-removed_position-position.false))
