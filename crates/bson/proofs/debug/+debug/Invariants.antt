use denote.Text.{Utf8}
use denote.Shadow.{shadow}
use Rattle.bson.proofs.debug.+debug.Given as goal

abbrev pub invariant-debug_pairs-loop-pair_index : goal.invariant-debug_pairs-loop-pair_index
invariant-debug_pairs-loop-pair_index g l = shadow (Utf8 l.separator)

abbrev pub invariant-debug_values-loop-value : goal.invariant-debug_values-loop-value
invariant-debug_values-loop-value g l = shadow (Utf8 l.separator)
