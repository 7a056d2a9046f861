use Rattle.std.specs.Prelude.{◌≡◌, ◌++◌, length}
use Rattle.bson_program.specs.Messages.{with_file_names}
use Rattle.bson_program.proofs.messages.add_file_name.Given as goal

abbrev pub invariant-loop-remaining_bytes : goal.invariant-loop-remaining_bytes
invariant-loop-remaining_bytes l = l.named_diagnostics.items ++ with_file_names l.format l.file_name l.remaining_bytes ≡ with_file_names l.format l.file_name l.diagnostics

abbrev pub decreases-loop-remaining_bytes : goal.decreases-loop-remaining_bytes
decreases-loop-remaining_bytes l = length l.remaining_bytes
