use Rattle.bson_text.proofs.Keys.{SpanKeysAscend}
use Rattle.bson_text.proofs.distinct_keys.keys_ascend.Given as goal

abbrev pub invariant-loop-next_index : goal.invariant-loop-next_index
invariant-loop-next_index l = SpanKeysAscend l.keys l.next_index
