use Rattle.std.proofs.Common.{◌≡◌, ◌++◌, List, ℕ, length}
use Rattle.std.specs.Fmt.{HasWritten, IsPlainFormatter}
use Rattle.bson_types.specs.Base64.{padded_base64}
use Rattle.bson_types.proofs.binary.Base64Display.fmt.Given as goal

abbrev pub invariant-groups : goal.invariant-groups
invariant-groups g l =
    IsPlainFormatter l.initial.formatter → (done : List ℕ) × (HasWritten g.W.Write.write_str_gives l.initial.formatter done l.formatter)
    × (done ++ padded_base64 l.remaining_bytes ≡ padded_base64 l.initial.remaining_bytes)

abbrev pub decreases-groups : goal.decreases-groups
decreases-groups g l = length l.remaining_bytes
