use Rattle.std.proofs.Common.{None, codes}
use Rattle.std.proofs.lemmas.Result.{on_ok_weaker}
use Rattle.bson_codec.proofs.Offered.{two_added}
use Rattle.bson_codec.specs.Diagnostics.{number_tokens}
use Rattle.bson_run.proofs.diagnostic.write_no_path.Goals as goal

pub returns-clause-added : goal.returns-clause-added
returns-clause-added c =
    on_ok_weaker c.write_number-2.result
    (λ e. two_added c.args.writer.now.tokens (number_tokens (codes "path") None) (number_tokens (codes "pointer") None)
    c.write_number.new.writer.tokens c.write_number-2.new.writer.tokens c.in_ok-write_number.ensures.added e)
    c.write_number-2.ensures.added
