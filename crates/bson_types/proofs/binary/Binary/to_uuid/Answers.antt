use Rattle.std.proofs.Common.{sym, ◌∙◌}
use Rattle.bson_types.proofs.OrderLemmas.{as_they_are}
use Rattle.bson_types.proofs.binary.Binary.to_uuid.Goals as goal

pub returns-clause-ok : goal.returns-clause-ok
returns-clause-ok c =
    let bytes = c.args.self.now.bytes in
    let read = c.to_uuid_with_representation.ensures in
    as_they_are c.to_uuid_with_representation.result bytes.items (λ ok. sym bytes.ok.0 ∙ (read.succeeds.0 ok).1) read.ok
