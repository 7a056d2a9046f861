use Rattle.std.proofs.Common.{◌-◌, ◌<◌, ◌≤◌, length}
use Rattle.bson_codec.specs.Streams.{BytesAdded}
use Rattle.bson_codec.proofs.stream.fill_to.Given as goal

abbrev pub invariant-loop-bytes : goal.invariant-loop-bytes
invariant-loop-bytes g l = (length l.bytes.items ≤ l.count) × (0 < length l.block)
    × BytesAdded (g.R.Read.remaining l.initial.reader) (g.R.Read.remaining l.reader) l.initial.bytes.items l.bytes.items

abbrev pub decreases-loop-bytes : goal.decreases-loop-bytes
decreases-loop-bytes g l = l.count - length l.bytes.items
