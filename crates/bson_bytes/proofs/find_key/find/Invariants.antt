use Rattle.std.proofs.Common.{◌≤◌, ◌-◌, length, drop}
use Rattle.std.specs.Prelude.{IfSome, option_map}
use Rattle.bson_bytes.proofs.Finding.{FindsIn}
use Rattle.bson_bytes.proofs.find_key.find.Given as goal

abbrev pub invariant-elements : goal.invariant-elements
invariant-elements l = record {
  finds : FindsIn l.bytes l.key (option_map (λ i. drop i l.bytes) l.found_position) (drop l.position l.bytes);
  in_bounds : IfSome l.found_position (λ i. i ≤ length l.bytes);
}

abbrev pub decreases-elements : goal.decreases-elements
decreases-elements l = length l.bytes - l.position
