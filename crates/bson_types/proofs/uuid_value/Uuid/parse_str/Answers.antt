use Rattle.std.proofs.Common.{◌∙◌, sym}
use Rattle.bson_types.proofs.UuidLaws.{parsed_from, parsed_to}
use Rattle.bson_types.proofs.uuid_value.Uuid.parse_str.Goals as goal

pub returns-in-Ok-clause-ok : goal.returns-in-Ok-clause-ok
returns-in-Ok-clause-ok c = rw c.as_bytes.ensures (parsed_from c.args.text.now c.in-Ok.id (sym c.in-Ok.ensures.bytes))

pub returns-in-Ok-clause-valid : goal.returns-in-Ok-clause-valid
returns-in-Ok-clause-valid c = λ id is. cc (c.in-Ok.ensures.bytes ∙ parsed_to is)

pub returns-in-Err-clause-valid : goal.returns-in-Err-clause-valid
returns-in-Err-clause-valid c = λ id is. cc (c.in-Err.ensures.ok.1 (id, parsed_to is))
