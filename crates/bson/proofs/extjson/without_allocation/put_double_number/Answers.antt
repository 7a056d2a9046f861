use Rattle.std.proofs.Common.{◌++◌, ◌∷◌, [], ap, sym, subst, ◌∙◌, rules}
use Rattle.json.specs.Print.{IsNumber}
use Rattle.json.specs.Token.{number}
use Rattle.json.proofs.Printed.Floats.{IsNumber-plain}
use Rattle.bson_double.proofs.Offered.{json_number}
use Rattle.bson_scalar.proofs.Offered.{on_ok}
use Rattle.bson.specs.OutputCapacity.{StaysWithinCapacity}
use Rattle.json.specs.Tree.{room}
use Rattle.bson.proofs.Direct.{number_is, one_token}
use Rattle.bson.proofs.extjson.without_allocation.put_double_number.Goals as goal

pub number-requires : goal.number-requires
number-requires c =
    subst IsNumber (sym c.as_str.ensures.value)
    (IsNumber-plain c.double_text.result.bytes
    (json_number c.args.pattern c.double_text.result.bytes c.requires c.double_text.ensures))

pub returns-clause-put : goal.returns-clause-put
returns-clause-put c =
    let same = c.as_str.ensures.value
    ∙ number_is c.args.pattern c.double_text.result.bytes c.number_texts.ensures (search (rules, c.ranges)) c.requires
    c.double_text.ensures in
    on_ok c.number.result (λ wrote. wrote ∙ ap (λ s. c.args.writer.now.tokens ++ number s ∷ []) same) c.number.ensures.ok

pub returns-clause-room : goal.returns-clause-room
returns-clause-room c =
    let same = c.as_str.ensures.value
    ∙ number_is c.args.pattern c.double_text.result.bytes c.number_texts.ensures (search (rules, c.ranges)) c.requires
    c.double_text.ensures in
    subst (λ s. StaysWithinCapacity c.number.result c.args.writer.now.spare c.number.new.self.spare (room (number s ∷ []))) same
    (one_token c.number.result c.args.writer.now.spare c.number.new.self.spare _ c.number.ensures.room.1)
