use Rattle.std.proofs.Common.{length, IsUtf8}
use Rattle.json.specs.Lex.{tokens}
use Rattle.bson_run.specs.Indent.{IsWholeLayout}
use Rattle.bson_run.proofs.indent.indent_text.Given as goal

abbrev pub invariant-loop-token : goal.invariant-loop-token
invariant-loop-token l = IsWholeLayout l.spaces (tokens l.text) l.reader l.layout × IsUtf8 l.layout.written_bytes.items

abbrev pub decreases-loop-token : goal.decreases-loop-token
decreases-loop-token l = length l.reader
