use Rattle.std.proofs.Common.{◌∙◌, List, ap, map, subst, sym, ℕ}
use Rattle.std.proofs.lemmas.Result.{err_from_is_err_and}
use Rattle.bson_bytes.proofs.Offered.{told_ok}
use Rattle.bson_bytes.specs.PutSteps.{PutResult, StopsFor, put_elements, put_length_placeholder}
use Rattle.bson_tree.specs.Place.{segment_of}
use Rattle.vbson.proofs.Paths.{only_memory, document_put, document_stops}
use Rattle.vbson.specs.Path.{path_pairs}
use Rattle.vbson.proofs.path.path_bytes.Goals as goal

pub returns-in_err-put_segments-clause-only_out_of_memory : goal.returns-in_err-put_segments-clause-only_out_of_memory
returns-in_err-put_segments-clause-only_out_of_memory c =
    let p = err_from_is_err_and c.from_residual-in_err-put_segments.result c.from_residual-in_err-put_segments.ensures.1 in
    let e = c.in_err-put_segments.field-0.0 in
    let ps = path_pairs (map segment_of c.args.segments.now) in
    let room = c.in_ok-put_length_placeholder.ensures ∙ ap put_length_placeholder c.new-bytes.ensures.items in
    let h = subst (λ (out : List ℕ). StopsFor e (put_elements ps out)) room c.in_err-put_segments.ensures.puts_bytes in
    rw p.1 (λ fits. p.2 ∙ only_memory e ps fits (document_stops e ps h))

pub returns-in_err-put_nul_and_length-clause-only_out_of_memory : goal.returns-in_err-put_nul_and_length-clause-only_out_of_memory
returns-in_err-put_nul_and_length-clause-only_out_of_memory c =
    let p = err_from_is_err_and c.from_residual-in_err-put_nul_and_length.result c.from_residual-in_err-put_nul_and_length.ensures.1 in
    let e = c.in_err-put_nul_and_length.field-0.0 in
    let ps = path_pairs (map segment_of c.args.segments.now) in
    let room = c.in_ok-put_length_placeholder.ensures ∙ ap put_length_placeholder c.new-bytes.ensures.items in
    let put = ap (put_elements ps) (sym room) ∙ c.in_ok-put_segments.ensures.puts_bytes in
    let h = subst (λ (r : PutResult). StopsFor e r) (sym (document_put ps c.put_segments.new.bytes.items put)) c.in_err-put_nul_and_length.ensures.put in
    rw p.1 (λ fits. p.2 ∙ only_memory e ps fits h)

pub returns-clause-ok : goal.returns-clause-ok
returns-clause-ok c =
    let ps = path_pairs (map segment_of c.args.segments.now) in
    let room = c.in_ok-put_length_placeholder.ensures ∙ ap put_length_placeholder c.new-bytes.ensures.items in
    let put = ap (put_elements ps) (sym room) ∙ c.in_ok-put_segments.ensures.puts_bytes in
    (told_ok ps c.put_nul_and_length.new.output.items (document_put ps c.put_segments.new.bytes.items put ∙ c.in_ok-put_nul_and_length.ensures.put)).1
