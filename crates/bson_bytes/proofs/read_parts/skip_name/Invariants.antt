use Rattle.std.proofs.Common.{◌≡◌, take, drop}
use Rattle.std.specs.Str.{IsAscii}
use Rattle.bson_bytes.specs.Reading.{split_at_nul}
use Rattle.bson_bytes.proofs.Splits.{before}
use Rattle.bson_bytes.proofs.read_parts.skip_name.Given as goal

abbrev pub invariant-loop-index : goal.invariant-loop-index
invariant-loop-index l =
    (before (take l.index l.bytes) (split_at_nul (drop l.index l.bytes)) ≡ split_at_nul l.bytes) × IsAscii (take l.index l.bytes)
