use Rattle.std.proofs.Common.{[], ◌∷◌, codes}
use Rattle.std.proofs.lemmas.Result.{on_ok_weaker}
use Rattle.json.specs.Token.{end_object}
use Rattle.bson_codec.proofs.Added.{three_added}
use Rattle.bson_codec.specs.Diagnostics.{text_tokens}
use Rattle.bson_codec.proofs.diagnostic.write_message.Goals as goal

pub returns-clause-added : goal.returns-clause-added
returns-clause-added c =
    on_ok_weaker c.end_object.result
    (λ e. three_added c.args.writer.now.tokens (text_tokens (codes "code") c.args.code.now)
    (text_tokens (codes "message") c.args.message.now) (end_object ∷ []) c.write_text.new.writer.tokens
    c.write_text-2.new.writer.tokens c.end_object.new.self.tokens c.in_ok-write_text.ensures.added
    c.in_ok-write_text-2.ensures.added e)
    c.end_object.ensures.ok
