use Rattle.std.proofs.Common.{codes}
use Rattle.std.proofs.lemmas.Result.{on_ok_weaker}
use Rattle.bson_codec.proofs.Offered.{three_added}
use Rattle.bson_codec.specs.Diagnostics.{first_number_tokens, number_tokens}
use Rattle.bson_run.proofs.diagnostic.write_position.Goals as goal

pub returns-clause-added : goal.returns-clause-added
returns-clause-added c =
    let position = c.args.position in
    on_ok_weaker c.write_number-2.result
    (λ e. three_added c.args.writer.now.tokens (first_number_tokens (codes "line") position.line) (number_tokens (codes "column") position.column)
    (number_tokens (codes "offset") position.offset) c.begin_with_number.new.writer.tokens c.write_number.new.writer.tokens
    c.write_number-2.new.writer.tokens c.in_ok-begin_with_number.ensures.added c.in_ok-write_number.ensures.added e)
    c.write_number-2.ensures.added
