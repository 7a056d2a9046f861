use Rattle.std.proofs.Common.{◌≡◌, ◌++◌, List, ℕ, length}
use Rattle.bson_run.specs.LinesSteps.{LineCountFits, ReadsBytes}
use Rattle.bson_run.proofs.line_run_state.LineRunState.take.Given as goal

abbrev pub invariant-loop-newline_offset : goal.invariant-loop-newline_offset
invariant-loop-newline_offset l =
    LineCountFits l.self × ((taken : List ℕ) × (l.bytes ≡ taken ++ l.unread_bytes)
    × ReadsBytes l.settings.options l.settings.task l.settings.on_refusal taken l.fn.self l.self)

abbrev pub decreases-loop-newline_offset : goal.decreases-loop-newline_offset
decreases-loop-newline_offset l = length l.unread_bytes
