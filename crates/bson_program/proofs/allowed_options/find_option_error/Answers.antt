use Rattle.std.proofs.Common.{◌≡◌, rules}
use Rattle.bson_program.specs.declared.invocation.Purpose.TheVariants.{Comparison}
use Rattle.bson_program.proofs.allowed_options.find_option_error.Goals as goal

pub returns-then-eq-clause-some : goal.returns-then-eq-clause-some
returns-then-eq-clause-some c =
    let is : c.args.args_so_far.now.purpose ≡ Comparison = search rules in c.two_files_error.ensures.some c.args.output is
