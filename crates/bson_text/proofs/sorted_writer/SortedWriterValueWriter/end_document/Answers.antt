use Rattle.std.proofs.lemmas.Result.{err_from_is_err_and}
use Rattle.bson_scalar.specs.declared.form.Doubles.TheVariants.{Finite}
use Rattle.bson_text.proofs.Writers.{sorting_stops}
use Rattle.std.proofs.Common.{◌≡◌, map, length, take, refl, sym, ap, ◌∙◌, subst, arith}
use Rattle.std.specs.List.{All}
use Rattle.bson_model.specs.Sorted.{sorted_pairs}
use Rattle.bson_text.specs.MemberSpans.{spans_from, IsObjectWritten, IsUnfinishedObject, IsSpanWithin}
use Rattle.bson_text.specs.TraversalResults.{each_key_once}
use Rattle.bson_text.proofs.SortedMembers.{document_added, document_stands}
use Rattle.bson_text.proofs.Standing.{own_starts, are_held, others_held, all_within, stands_open, has_members}
use Rattle.bson_text.proofs.sorted_writer.SortedWriterValueWriter.end_document.Goals as goal

pub slice_bounds-member_starts-count : goal.slice_bounds-member_starts-count
slice_bounds-member_starts-count c =
    let (start, mid, ps, open_container, written, named) = c.requires in
    let (mode, form, d) = document_stands start mid c.args.self.now c.args.open_container ps c.args.keys.now open_container written named in
    are_held d c.deref.result.now c.deref.ensures.value

pub slice_bounds-member_starts-start : goal.slice_bounds-member_starts-start
slice_bounds-member_starts-start c =
    let (start, mid, ps, open_container, written, named) = c.requires in
    let (mode, form, d) = document_stands start mid c.args.self.now c.args.open_container ps c.args.keys.now open_container written named in
    are_held d c.deref.result.now c.deref.ensures.value

pub offset_bounds-deref-open_container : goal.offset_bounds-deref-open_container
offset_bounds-deref-open_container c =
    let (start, mid, ps, open_container, written, named) = c.requires in
    let (mode, form, d) = document_stands start mid c.args.self.now c.args.open_container ps c.args.keys.now open_container written named in
    let members_after_brace = are_held d c.deref.result.now c.deref.ensures.value in
    grind arith

pub end_object-requires-clause-paired : goal.end_object-requires-clause-paired
end_object-requires-clause-paired c =
    let (start, mid, ps, open_container, written, named) = c.requires in
    let (mode, form, d) = document_stands start mid c.args.self.now c.args.open_container ps c.args.keys.now open_container written named in
    d.paired ∙ ap length (sym (own_starts d c.deref.result.now c.deref.ensures.value))

pub end_object-requires-clause-within : goal.end_object-requires-clause-within
end_object-requires-clause-within c =
    let (start, mid, ps, open_container, written, named) = c.requires in
    let (mode, form, d) = document_stands start mid c.args.self.now c.args.open_container ps c.args.keys.now open_container written named in
    let texts = c.args.self.now.text.items in
    subst (λ member_starts. All (IsSpanWithin texts) (spans_from c.args.keys.now member_starts (length texts)))
    (sym (own_starts d c.deref.result.now c.deref.ensures.value)) (all_within d)

pub end_object-requires-clause-began_document : goal.end_object-requires-clause-began_document
end_object-requires-clause-began_document c =
    let (start, mid, ps, open_container, written, named) = c.requires in
    let (mode, form, d) = document_stands start mid c.args.self.now c.args.open_container ps c.args.keys.now open_container written named in
    let texts = c.args.self.now.text.items in
    subst (λ member_starts. IsUnfinishedObject (take c.args.open_container.start texts) texts (spans_from c.args.keys.now member_starts (length texts)))
    (sym (own_starts d c.deref.result.now c.deref.ensures.value)) (stands_open d)

pub returns-clause-written : goal.returns-clause-written
returns-clause-written c = λ start mid ps open_container written named.
    let (mode, form, d) = document_stands start mid c.args.self.now c.args.open_container ps c.args.keys.now open_container written named in
    let ks = c.args.keys.now in
    let texts = c.args.self.now.text.items in
    let new = c.end_object.new.text.items in
    let (ms, is, text) = document_added start.doubles start.form start texts new (sorted_pairs (each_key_once ps))
    (has_members d new
    (subst (λ member_starts. IsObjectWritten (spans_from ks member_starts (length texts)) (take c.args.open_container.start texts) texts new)
    (own_starts d c.deref.result.now c.deref.ensures.value) c.in_ok-end_object.ensures.ended)) in
    (ms, is, (mode, form, refl, c.truncate.ensures.items ∙ others_held d, text))

pub returns-in_err-end_object-clause-stops : goal.returns-in_err-end_object-clause-stops
returns-in_err-end_object-clause-stops c =
    let p = err_from_is_err_and c.from_residual.result c.from_residual.ensures.1 in
    rw (p.1, p.2) (sorting_stops (λ D. D ≡ Finite) (map (λ k. k.now) c.args.keys.now) c.in_err-end_object.field-0.0
    c.in_err-end_object.ensures.stops)
