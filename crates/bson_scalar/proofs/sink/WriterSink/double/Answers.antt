use Rattle.std.proofs.Common.{◌++◌, ◌∷◌, [], ap, sym, subst, ◌∙◌, rules}
use Rattle.json.specs.Print.{IsNumber}
use Rattle.json.specs.Token.{number}
use Rattle.json.proofs.Printed.Floats.{IsNumber-plain}
use Rattle.bson_double.proofs.Offered.{json_number}
use Rattle.bson_scalar.proofs.Appending.{if_ok}
use Rattle.bson_scalar.proofs.TreeTexts.{pattern_text}
use Rattle.bson_scalar.proofs.sink.WriterSink.double.Goals as goal

pub number-requires : goal.number-requires
number-requires c =
    subst IsNumber (sym c.as_str.ensures.value)
    (IsNumber-plain c.double_text.result.bytes
    (json_number c.args.pattern c.double_text.result.bytes c.requires c.double_text.ensures))

pub returns-clause-written : goal.returns-clause-written
returns-clause-written c =
    if_ok c.number.result c.number.ensures.ok
    (λ done wrote_tree. wrote_tree ∙ ap (λ s. c.args.self.now.tokens ++ number s ∷ [])
    (c.as_str.ensures.value
    ∙ sym (pattern_text c.args.pattern c.double_text.result.bytes (search (rules, c.ranges)) c.requires c.double_text.ensures)))
