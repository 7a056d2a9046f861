use Rattle.std.specs.Prelude.{◌≡◌, string_bytes}
use Rattle.std.specs.List.{flat_map}
use Rattle.bson_program.specs.Messages.{printable}
use Rattle.bson_program.proofs.messages.escape_name.Given as goal

abbrev pub invariant-loop-character : goal.invariant-loop-character
invariant-loop-character l = string_bytes l.escaped ≡ flat_map printable l.yielded
