use Rattle.std.proofs.Common.{◌≡◌}
use Rattle.bson_scalar.specs.Table.{has_wrapper}
use Rattle.serde_json.specs.View.{members_view}
use Rattle.bson_tree.specs.Shape.{first_wrapper_in}
use Rattle.bson_tree.proofs.shape.first_wrapper.Given as goal

abbrev pub invariant-loop-key : goal.invariant-loop-key
invariant-loop-key l = record {
  first : first_wrapper_in (members_view l.members.entries) ≡ first_wrapper_in (members_view l.key-iterator);
  is_present : has_wrapper (members_view l.members.entries) ≡ has_wrapper (members_view l.key-iterator);
}
