use Rattle.std.specs.Prelude.{◌≡◌, ◌≤◌, ℕ, List, take}
use Rattle.sha2.specs.Hashers.{Holds256}
use Rattle.bson_program.specs.Digests.{HasOpenLine, digests_from}
use Rattle.bson_program.proofs.digests.LineHasher.digests_of.Given as goal

abbrev pub invariant-loop-offset : goal.invariant-loop-offset
invariant-loop-offset l = record {
  line_start : l.line_start ≤ l.offset;
  line_sha256 : (open_line : List ℕ) → Holds256 l.initial.self.line_sha256 open_line → HasOpenLine l.self.line_sha256 open_line l.bytes l.line_start l.offset;
  digests : (open_line : List ℕ) → Holds256 l.initial.self.line_sha256 open_line → l.digests.items ≡ digests_from open_line (take l.offset l.bytes);
}
