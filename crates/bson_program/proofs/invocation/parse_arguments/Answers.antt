use Rattle.std.proofs.Common.{◌≡◌, ◌∙◌, ap, arith, inr, length, map, refl, string_bytes, subst, sym, take}
use Rattle.std.proofs.lemmas.List.{length-map, take_all}
use Rattle.bson_program.specs.Invocation.{no_args, AreParsed, IsParsed}
use Rattle.bson_program.proofs.Asking.{answer, last_arg, more_given}
use Rattle.bson_program.proofs.invocation.parse_arguments.Goals as goal

pub returns-in-Help : goal.returns-in-Help
returns-in-Help c = (
  c.as_str.result.now,
  last_arg string_bytes c.args.args.items c.deref-arg-items.result.now _ _ _ c.as_str.result.now c.command-command.result c.loop-arg.args_so_far
      c.parse_arg.new.self _ _ c.deref-arg-items.ensures.value (omega arith) c.arg-item.is c.as_str.ensures.value refl c.loop-arg.invariant
      c.in_ok-parse_arg.ensures c.in-Help.is c.command-command.ensures,
)

pub returns-in-Version : goal.returns-in-Version
returns-in-Version c = (
  c.as_str.result.now,
  c.command-command.result,
  last_arg string_bytes c.args.args.items c.deref-arg-items.result.now _ _ _ c.as_str.result.now c.command-command.result c.loop-arg.args_so_far
      c.parse_arg.new.self _ _ c.deref-arg-items.ensures.value (omega arith) c.arg-item.is c.as_str.ensures.value refl c.loop-arg.invariant
      c.in_ok-parse_arg.ensures c.in-Version.is c.command-command.ensures,
)

pub returns-in-InvalidUsage : goal.returns-in-InvalidUsage
returns-in-InvalidUsage c =
    let same : string_bytes c.in_ok-arg-in-InvalidUsage.arg ≡ c.as_str.result.now =
    c.in_ok-arg-in-InvalidUsage.ensures.ok ∙ c.as_str-in-InvalidUsage.ensures.value ∙ sym c.as_str.ensures.value in
    inr (last_arg string_bytes c.args.args.items c.deref-arg-items.result.now _ _ _ _ c.command-command.result c.loop-arg.args_so_far
    c.parse_arg.new.self _ _ c.deref-arg-items.ensures.value (omega arith) c.arg-item.is c.as_str.ensures.value same c.loop-arg.invariant
    c.in_ok-parse_arg.ensures c.in-InvalidUsage.is c.command-command.ensures)

pub loop-arg-preserved : goal.loop-arg-preserved
loop-arg-preserved c =
    more_given string_bytes c.args.args.items c.deref-arg-items.result.now _ _ _ c.loop-arg.args_so_far c.parse_arg.new.self
    c.deref-arg-items.ensures.value (omega arith) c.arg-item.is c.as_str.ensures.value c.loop-arg.invariant
    (subst (IsParsed c.as_str.result.now c.loop-arg.args_so_far c.parse_arg.new.self) c.in-AcceptedArg.is c.in_ok-parse_arg.ensures)

pub loop-arg-init : goal.loop-arg-init
loop-arg-init c = no_args c.new-args_so_far.result c.new-args_so_far.ensures.initial_state c.new-args_so_far.ensures.no_inputs

pub returns : goal.returns
returns c =
    let args = c.args.args.items in
    let whole : take c.loop-arg.arg-index (map string_bytes args) ≡ map string_bytes args =
    take_all c.loop-arg.arg-index (map string_bytes args)
    (omega (
      arith,
      length-map args string_bytes,
      ap length c.deref-arg-items.ensures.value,
      c.loop-arg-test.false,
    )) in
    answer (map string_bytes args) c.loop-arg.args_so_far c.into_request.result
    (subst (λ ws. AreParsed ws c.loop-arg.args_so_far) whole c.loop-arg.invariant) c.into_request.ensures
