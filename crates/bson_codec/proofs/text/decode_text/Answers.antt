use Rattle.std.proofs.Common.{◌≡◌, Ok, Err, arith, subst, sym}
use Rattle.bson_bytes.specs.Reading.{reads_bytes}
use Rattle.bson_model.specs.Value.{document}
use Rattle.bson_model.specs.ValueTexts.{IsTextInOrder}
use Rattle.bson_model.specs.declared.options.DuplicateKeys.TheVariants.{LastWins}
use Rattle.bson_scalar.specs.declared.form.Doubles.TheVariants.{Finite}
use Rattle.bson_bytes.proofs.Offered.{grammar_from, is_read, fault_stands}
use Rattle.bson_bytes.proofs.OfferedSource.{stopped_at}
use Rattle.bson_codec.proofs.Ends.{fault_alone}
use Rattle.bson_codec.proofs.text.decode_text.Goals as goal

pub add_offset-requires : goal.add_offset-requires
add_offset-requires c =
    let fails = stopped_at (λ e. Unit {0}) c.in-Err-Fault.field-0 c.in-Err-Fault.fault (reads_bytes c.args.depth c.args.bytes.now)
    c.in-Err-Fault.field-0-is c.in-Err-Fault.ensures in
    fault_stands LastWins c.args.depth c.args.bytes.now c.in-Err-Fault.fault fails

pub returns-in-Ok-clause-ok : goal.returns-in-Ok-clause-ok
returns-in-Ok-clause-ok c =
    let x = c.in-Ok.ensures in
    record {
      pairs = x.0;
      read = grammar_from LastWins c.args.depth c.args.bytes.now x.0 (λ i. omega (arith, c.type_inv.bytes i)) x.1;
      text_in_order = subst (IsTextInOrder Finite c.args.form (document x.0)) (sym c.into_string.ensures) x.2.0.0;
    }

pub returns-in-Err-Fault-clause-only : goal.returns-in-Err-Fault-clause-only
returns-in-Err-Fault-clause-only c = λ ps h.
    let fails : reads_bytes c.args.depth c.args.bytes.now ≡ Err c.in-Err-Fault.fault =
    stopped_at (λ e. Unit {0}) c.in-Err-Fault.field-0 c.in-Err-Fault.fault (reads_bytes c.args.depth c.args.bytes.now)
    c.in-Err-Fault.field-0-is c.in-Err-Fault.ensures in
    let read : reads_bytes c.args.depth c.args.bytes.now ≡ Ok ps = is_read LastWins c.args.depth c.args.bytes.now ps h in
    absurd cc

pub returns-in-Err-Fault-clause-fault : goal.returns-in-Err-Fault-clause-fault
returns-in-Err-Fault-clause-fault c =
    let read = reads_bytes c.args.depth c.args.bytes.now in
    let fails = stopped_at (λ e. Unit {0}) c.in-Err-Fault.field-0 c.in-Err-Fault.fault read c.in-Err-Fault.field-0-is
    c.in-Err-Fault.ensures in
    let place = fault_stands LastWins c.args.depth c.args.bytes.now c.in-Err-Fault.fault fails in
    rw c.add_offset.ensures (fault_alone c.in-Err-Fault.fault c.args.bytes.now read place fails)
