use Rattle.std.proofs.Common.{◌≡◌, Ok, Err, arith}
use Rattle.bson_bytes.proofs.Offered.{grammar_from, is_read, fault_stands}
use Rattle.bson_bytes.specs.Reading.{reads_bytes}
use Rattle.bson_model.specs.declared.options.DuplicateKeys.TheVariants.{LastWins}
use Rattle.bson_codec.proofs.Ends.{fault_alone}
use Rattle.bson_codec.proofs.de.is_document.Goals as goal

pub returns-in-Ok-clause-ok : goal.returns-in-Ok-clause-ok
returns-in-Ok-clause-ok c =
    let read = c.in-Ok.ensures.ok in
    (read.0, grammar_from LastWins c.args.depth c.args.bytes.now read.0 (λ i. omega (arith, c.type_inv.bytes i)) read.1)

pub add_offset-requires : goal.add_offset-requires
add_offset-requires c = fault_stands LastWins c.args.depth c.args.bytes.now c.in-Err.fault c.in-Err.ensures.fault

pub returns-in-Err-clause-only : goal.returns-in-Err-clause-only
returns-in-Err-clause-only c = λ ps h.
    let fails : reads_bytes c.args.depth c.args.bytes.now ≡ Err c.in-Err.fault = c.in-Err.ensures.fault in
    let read : reads_bytes c.args.depth c.args.bytes.now ≡ Ok ps = is_read LastWins c.args.depth c.args.bytes.now ps h in
    cc

pub returns-in-Err-clause-fault : goal.returns-in-Err-clause-fault
returns-in-Err-clause-fault c =
    rw c.add_offset.ensures (fault_alone c.in-Err.fault c.args.bytes.now (reads_bytes c.args.depth c.args.bytes.now)
    (fault_stands LastWins c.args.depth c.args.bytes.now c.in-Err.fault c.in-Err.ensures.fault) c.in-Err.ensures.fault)
