use Rattle.std.proofs.Common.{sym, ◌∙◌}
use Rattle.bson_types.proofs.Offered.{sized_from, sized_to}
use Rattle.vbson.proofs.scalars.vbson_object_id_parse.Goals as goal

pub returns-in-Ok-clause-success : goal.returns-in-Ok-clause-success
returns-in-Ok-clause-success c = λ success. sized_from 12 c.args.text.now c.in-Ok.id (sym c.in-Ok.ensures)

pub returns-in-Err-clause-no_such_text : goal.returns-in-Err-clause-no_such_text
returns-in-Err-clause-no_such_text c = λ none id is. cc (c.in-Err.ensures ∙ sized_to 12 c.args.text.now id is.0 is.1)
