use Rattle.std.proofs.Common.{rules}
use Rattle.bson_program.proofs.allowed_options.two_files_error.Goals as goal

pub returns-clause-some : goal.returns-clause-some
returns-clause-some c = λ output is. (
  is,
  (c.index.result.now, search rules, search rules),
  (c.index-2.result.now, search rules, search rules),
)
