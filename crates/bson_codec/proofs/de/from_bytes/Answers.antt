use Rattle.std.proofs.Common.{arith, sym, subst, ◌∙◌}
use Rattle.bson_bytes.proofs.Offered.{grammar_from, is_read, fault_stands}
use Rattle.bson_bytes.specs.ReadDocuments.{IsReadAsDocumentIn}
use Rattle.bson_bytes.specs.Reading.{reads_bytes_in}
use Rattle.bson_codec.proofs.Ends.{same_ok, memory_alone, stands, fault_of}
use Rattle.bson_codec.proofs.de.from_bytes.Goals as goal

pub returns-in-Ok-clause-ok : goal.returns-in-Ok-clause-ok
returns-in-Ok-clause-ok c =
    let x = c.in-Ok.ensures in
    subst (IsReadAsDocumentIn c.args.options.duplicate_keys c.args.options.depth c.args.bytes.now) (sym x.2)
    (grammar_from c.args.options.duplicate_keys c.args.options.depth c.args.bytes.now x.0
    (λ i. omega (arith, c.type_inv.bytes i)) x.1)

pub returns-in-Ok-clause-only : goal.returns-in-Ok-clause-only
returns-in-Ok-clause-only c = λ ps h.
    let x = c.in-Ok.ensures in (
      x.2 ∙ same_ok (reads_bytes_in c.args.options.duplicate_keys c.args.options.depth c.args.bytes.now) x.0 ps x.1
          (is_read c.args.options.duplicate_keys c.args.options.depth c.args.bytes.now ps h),
      tt,
    )

pub returns-in-Err-clause-only : goal.returns-in-Err-clause-only
returns-in-Err-clause-only c = λ ps h. (
  tt,
  c.add_offset.ensures ∙ memory_alone c.in-Err.stop c.args.bytes.now (reads_bytes_in c.args.options.duplicate_keys c.args.options.depth c.args.bytes.now) ps
      c.in-Err.ensures (is_read c.args.options.duplicate_keys c.args.options.depth c.args.bytes.now ps h),
)

pub add_offset-requires : goal.add_offset-requires
add_offset-requires c =
    stands c.in-Err.stop c.args.bytes.now (reads_bytes_in c.args.options.duplicate_keys c.args.options.depth c.args.bytes.now)
    (λ f e. fault_stands c.args.options.duplicate_keys c.args.options.depth c.args.bytes.now f e) c.in-Err.ensures

pub returns-in-Err-clause-fault : goal.returns-in-Err-clause-fault
returns-in-Err-clause-fault c =
    let read = reads_bytes_in c.args.options.duplicate_keys c.args.options.depth c.args.bytes.now in
    let place = stands c.in-Err.stop c.args.bytes.now read
    (λ f e. fault_stands c.args.options.duplicate_keys c.args.options.depth c.args.bytes.now f e) c.in-Err.ensures in
    rw c.add_offset.ensures (fault_of c.in-Err.stop c.args.bytes.now read place c.in-Err.ensures)
