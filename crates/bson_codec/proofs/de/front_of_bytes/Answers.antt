use Rattle.std.proofs.Common.{List, ℕ, arith, sym, ap, subst, ◌∙◌}
use Rattle.bson_model.specs.Value.{Pairs, no_pairs}
use Rattle.bson_bytes.proofs.Offered.{front_from, front_read, front_fault}
use Rattle.bson_bytes.specs.ReadDocuments.{IsFirstDocumentIn}
use Rattle.bson_bytes.specs.Reading.{insert_pairs_read, read_document_in, no_earlier_keys}
use Rattle.bson_codec.proofs.Ends.{same_ok, memory_alone, stands, fault_of}
use Rattle.bson_codec.proofs.de.front_of_bytes.Goals as goal

pub returns-in-Ok-clause-ok : goal.returns-in-Ok-clause-ok
returns-in-Ok-clause-ok c =
    let x = c.in-Ok.ensures in
    subst (λ ps. IsFirstDocumentIn c.args.options.duplicate_keys c.args.options.depth c.args.bytes.now ps c.in-Ok.rest.now) (sym x.2)
    (front_from c.args.options.duplicate_keys c.args.options.depth c.args.bytes.now x.0 c.in-Ok.rest.now
    (λ i. omega (arith, c.type_inv.bytes i)) x.1)

pub returns-in-Ok-clause-only : goal.returns-in-Ok-clause-only
returns-in-Ok-clause-only c = λ ps rest h.
    let x = c.in-Ok.ensures in
    let read = front_read c.args.options.duplicate_keys c.args.options.depth c.args.bytes.now ps rest h in
    let same = same_ok (insert_pairs_read no_pairs (read_document_in c.args.options.duplicate_keys c.args.options.depth (no_earlier_keys c.args.options.duplicate_keys) c.args.bytes.now))
    (x.0, c.in-Ok.rest.now) (ps, rest) x.1 read in
    ((x.2 ∙ ap (λ (x : Pairs × List ℕ). x.0) same, ap (λ (x : Pairs × List ℕ). x.1) same), tt)

pub returns-in-Err-clause-only : goal.returns-in-Err-clause-only
returns-in-Err-clause-only c = λ ps rest h. (
  tt,
  c.add_offset.ensures ∙ memory_alone c.in-Err.stop c.args.bytes.now
      (insert_pairs_read no_pairs (read_document_in c.args.options.duplicate_keys c.args.options.depth (no_earlier_keys c.args.options.duplicate_keys) c.args.bytes.now)) (ps, rest) c.in-Err.ensures
      (front_read c.args.options.duplicate_keys c.args.options.depth c.args.bytes.now ps rest h),
)

pub add_offset-requires : goal.add_offset-requires
add_offset-requires c =
    stands c.in-Err.stop c.args.bytes.now (insert_pairs_read no_pairs (read_document_in c.args.options.duplicate_keys c.args.options.depth (no_earlier_keys c.args.options.duplicate_keys) c.args.bytes.now))
    (λ f e. front_fault c.args.options.duplicate_keys c.args.options.depth c.args.bytes.now f e) c.in-Err.ensures

pub returns-in-Err-clause-fault : goal.returns-in-Err-clause-fault
returns-in-Err-clause-fault c =
    let read = insert_pairs_read no_pairs (read_document_in c.args.options.duplicate_keys c.args.options.depth (no_earlier_keys c.args.options.duplicate_keys) c.args.bytes.now) in
    let place = stands c.in-Err.stop c.args.bytes.now read
    (λ f e. front_fault c.args.options.duplicate_keys c.args.options.depth c.args.bytes.now f e) c.in-Err.ensures in
    rw c.add_offset.ensures (fault_of c.in-Err.stop c.args.bytes.now read place c.in-Err.ensures)
