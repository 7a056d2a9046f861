use Rattle.std.proofs.Common.{rules, ◌≡◌, [], ◌∷◌, codes, to_z, of_z, w64}
use Rattle.json.specs.Token.{begin_object, end_object, key}
use Rattle.bson_scalar.specs.Ints.{int64_tree}
use Rattle.bson_scalar.specs.Tokens.{tokens_of}
use Rattle.bson_scalar.proofs.Offered.{in_turn, on_ok}
use Rattle.bson.proofs.Direct.{then}
use Rattle.bson.proofs.extjson.without_allocation.put_millis.Goals as goal

pub returns-clause-put : goal.returns-clause-put
returns-clause-put c =
    let old = c.args.writer.now.tokens in
    let name = key (codes "$date") in
    let same : to_z w64 (of_z w64 c.timestamp_millis.result) ≡ c.args.date = search rules in
    let two = then old (begin_object ∷ []) c.begin_object.new.self.tokens c.key.new.self.tokens name
    c.in_ok-begin_object.ensures.ok c.in_ok-key.ensures.ok in
    let three = in_turn old (begin_object ∷ name ∷ []) c.key.new.self.tokens (tokens_of (int64_tree c.args.date))
    c.put_quoted_i64.new.writer.tokens two (rw same at c.in_ok-put_quoted_i64.ensures.put) in
    on_ok c.end_object.result
    (λ last. then old (begin_object ∷ name ∷ tokens_of (int64_tree c.args.date)) c.put_quoted_i64.new.writer.tokens
    c.end_object.new.self.tokens end_object three last) c.end_object.ensures.ok
