use Rattle.std.specs.Prelude.{◌≡◌, string_bytes}
use Rattle.std.specs.List.{flat_map}
use Rattle.bson_run.specs.ErrorMessages.{char_or_escape}
use Rattle.bson_run.proofs.shorten.shorten.Given as goal

abbrev pub invariant-loop-character : goal.invariant-loop-character
invariant-loop-character l = string_bytes l.shortened ≡ flat_map (char_or_escape l.escapes) l.yielded
