use Rattle.std.specs.Prelude.{◌≡◌, map, take}
use Rattle.bson_program.proofs.compare_outputs.compare_lines.Given as goal

abbrev pub invariant-loop-line_index : goal.invariant-loop-line_index
invariant-loop-line_index l = take l.line_index (map (λ line. line.now) l.first_lines) ≡ take l.line_index (map (λ line. line.now) l.second_lines)
