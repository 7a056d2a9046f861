use Rattle.std.proofs.Common.{[], ◌∷◌, true, codes}
use Rattle.json.specs.Token.{begin_object, end_object, key, boolean}
use Rattle.bson_scalar.proofs.Offered.{on_ok}
use Rattle.bson.proofs.Direct.{then}
use Rattle.bson.proofs.extjson.without_allocation.put_undefined.Goals as goal

pub returns-clause-put : goal.returns-clause-put
returns-clause-put c =
    let old = c.args.writer.now.tokens in
    let name = key (codes "$undefined") in
    let two = then old (begin_object ∷ []) c.begin_object.new.self.tokens c.key.new.self.tokens name
    c.in_ok-begin_object.ensures.ok c.in_ok-key.ensures.ok in
    let three = then old (begin_object ∷ name ∷ []) c.key.new.self.tokens c.boolean.new.self.tokens (boolean true) two
    c.in_ok-boolean.ensures.ok in
    on_ok c.end_object.result
    (λ last. then old (begin_object ∷ name ∷ boolean true ∷ []) c.boolean.new.self.tokens c.end_object.new.self.tokens
    end_object three last) c.end_object.ensures.ok
