use Rattle.std.proofs.Common.{arith}
use Rattle.bson_bytes.proofs.Finding.{none_next, some_next}
use Rattle.bson_bytes.proofs.Iterating.{alone, sized_there}
use Rattle.bson_bytes.proofs.raw_element.document_bytes.Goals as goal

pub returns-in_default : goal.returns-in_default
returns-in_default c =
    λ d ps h. sized_there d c.args.bytes.now ps h (none_next c.skip_length_prefixed.result _ c.skip_length_prefixed.ensures.outcome c.in_default.is)

pub returns : goal.returns
returns c =
    λ d ps h. alone d c.args.bytes.now c.in-Some.rest.now ps (λ i. omega (arith, c.type_inv.bytes i)) h
    (some_next c.skip_length_prefixed.result _ c.in-Some.rest c.skip_length_prefixed.ensures.outcome c.in-Some.is)
