use Rattle.std.specs.Prelude.{map, string_bytes, take}
use Rattle.bson_program.specs.Invocation.{AreParsed}
use Rattle.bson_program.proofs.invocation.parse_arguments.Given as goal

abbrev pub invariant-loop-arg : goal.invariant-loop-arg
invariant-loop-arg l = AreParsed (take l.arg-index (map string_bytes l.fn.args.items)) l.args_so_far
