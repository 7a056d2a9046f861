use Rattle.std.specs.Prelude.{◌≡◌, string_bytes}
use Rattle.std.specs.List.{flat_map}
use Rattle.bson_run.specs.Diagnostic.{pointer_char}
use Rattle.bson_run.proofs.diagnostic.escape_key.Given as goal

abbrev pub invariant-loop-character : goal.invariant-loop-character
invariant-loop-character l = string_bytes l.escaped ≡ flat_map pointer_char l.yielded
