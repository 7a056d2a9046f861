use Rattle.std.proofs.Common.{List, ℕ, sym, subst, ◌∙◌}
use Rattle.bson_bytes.specs.ReadDocuments.{IsReadAsDocument}
use Rattle.bson_model.specs.declared.options.DuplicateKeys.TheVariants.{LastWins}
use Rattle.bson_codec.proofs.Streams.{front_read}
use Rattle.bson_codec.proofs.stream.from_reader.Goals as goal

pub returns-in-Err-Malformed-clause-only : goal.returns-in-Err-Malformed-clause-only
returns-in-Err-Malformed-clause-only g c = λ all ps rest known h.
    let front = c.as_slice.ensures.value ∙ c.in_ok-read_document_bytes.ensures.front all known in
    let here = subst (λ (b : List ℕ). IsReadAsDocument c.args.depth b ps) (sym front)
    (front_read LastWins c.args.depth all ps rest h) in
    let only = (c.in-Err-Malformed.ensures.only ps here).1 in
    let is = c.in-Err-Malformed.field-0-is in
    absurd cc
