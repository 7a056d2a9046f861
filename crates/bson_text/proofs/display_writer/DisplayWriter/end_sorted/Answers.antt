use Rattle.std.proofs.Common.{◌≡◌, ◌==◌, ◌++◌, length, take, refl, sym, ap, ◌∙◌, subst, arith, append_assoc}
use Rattle.std.proofs.lemmas.List.{length-map}
use Rattle.std.specs.List.{All}
use Rattle.bson_model.specs.declared.options.KeyOrder.TheVariants.{Ascending}
use Rattle.bson_model.specs.Displayed.{display_text}
use Rattle.bson_model.specs.Sorted.{sorted_pairs}
use Rattle.bson_model.specs.Value.{document}
use Rattle.bson_text.specs.MemberSpans.{spans_from, IsObjectWritten, IsUnfinishedObject, IsSpanWithin}
use Rattle.bson_text.specs.DisplayOutput.{display_with_separator, arranged_pairs, separator_if}
use Rattle.bson_text.specs.TraversalResults.{keys_of, each_key_once}
use Rattle.bson_text.proofs.ShownMembers.{document_stands, ended_shown, same_order}
use Rattle.bson_text.proofs.Standing.{own_starts, are_held, others_held, all_within, stands_open, has_members}
use Rattle.bson_text.proofs.display_writer.DisplayWriter.end_sorted.Goals as goal

pub slice_bounds-member_starts-count : goal.slice_bounds-member_starts-count
slice_bounds-member_starts-count c =
    let (start, mid, ps, open_container, written, named) = c.requires.members_written in
    let d = document_stands start mid c.args.self.now c.args.open_container ps c.args.keys.now open_container written named c.requires.ascending in
    are_held d c.deref.result.now c.deref.ensures.value

pub slice_bounds-member_starts-start : goal.slice_bounds-member_starts-start
slice_bounds-member_starts-start c =
    let (start, mid, ps, open_container, written, named) = c.requires.members_written in
    let d = document_stands start mid c.args.self.now c.args.open_container ps c.args.keys.now open_container written named c.requires.ascending in
    are_held d c.deref.result.now c.deref.ensures.value

pub offset_bounds-deref-open_container : goal.offset_bounds-deref-open_container
offset_bounds-deref-open_container c =
    let (start, mid, ps, open_container, written, named) = c.requires.members_written in
    let d = document_stands start mid c.args.self.now c.args.open_container ps c.args.keys.now open_container written named c.requires.ascending in
    let members_after_brace = are_held d c.deref.result.now c.deref.ensures.value in
    grind arith

pub end_object-requires-clause-paired : goal.end_object-requires-clause-paired
end_object-requires-clause-paired c =
    let (start, mid, ps, open_container, written, named) = c.requires.members_written in
    let d = document_stands start mid c.args.self.now c.args.open_container ps c.args.keys.now open_container written named c.requires.ascending in
    d.paired ∙ ap length (sym (own_starts d c.deref.result.now c.deref.ensures.value))

pub end_object-requires-clause-within : goal.end_object-requires-clause-within
end_object-requires-clause-within c =
    let (start, mid, ps, open_container, written, named) = c.requires.members_written in
    let d = document_stands start mid c.args.self.now c.args.open_container ps c.args.keys.now open_container written named c.requires.ascending in
    let texts = c.args.self.now.text.items in
    subst (λ member_starts. All (IsSpanWithin texts) (spans_from c.args.keys.now member_starts (length texts)))
    (sym (own_starts d c.deref.result.now c.deref.ensures.value)) (all_within d)

pub end_object-requires-clause-began_document : goal.end_object-requires-clause-began_document
end_object-requires-clause-began_document c =
    let (start, mid, ps, open_container, written, named) = c.requires.members_written in
    let d = document_stands start mid c.args.self.now c.args.open_container ps c.args.keys.now open_container written named c.requires.ascending in
    let texts = c.args.self.now.text.items in
    subst (λ member_starts. IsUnfinishedObject (take c.args.open_container.start texts) texts (spans_from c.args.keys.now member_starts (length texts)))
    (sym (own_starts d c.deref.result.now c.deref.ensures.value)) (stands_open d)

pub returns-clause-written : goal.returns-clause-written
returns-clause-written c = λ start mid ps open_container written named.
    let d = document_stands start mid c.args.self.now c.args.open_container ps c.args.keys.now open_container written named c.requires.ascending in
    let ks = c.args.keys.now in
    let texts = c.args.self.now.text.items in
    let new = c.end_object.new.text.items in
    let qs = sorted_pairs (each_key_once ps) in
    let h = has_members d new
    (subst (λ member_starts. IsObjectWritten (spans_from ks member_starts (length texts)) (take c.args.open_container.start texts) texts new)
    (own_starts d c.deref.result.now c.deref.ensures.value) c.in_ok-end_object.ensures.ended) in
    let last = c.put_space_before_brace.new.text.items in
    let ordered = same_order ps mid c.args.self.now written ∙ open_container.2.1 in
    let ascending : Ascending ≡ start.key_order = sym c.requires.ascending ∙ ordered in
    let whole = append_assoc start.text.items (separator_if start.needs_comma) (display_text (document qs))
    ∙ ap (λ a. start.text.items ++ (separator_if start.needs_comma ++ display_text (document (arranged_pairs a (each_key_once ps))))) ascending in
    let many : length (keys_of ps) ≡ length ks = ap length named ∙ length-map ks (λ k. k.now) in
    let none : c.is_empty.result ≡ (length (keys_of ps) == 0) = c.is_empty.ensures ∙ ap (λ n. n == 0) (sym many) in (
      refl,
      ordered,
      c.truncate.ensures.items ∙ others_held d,
      ended_shown c.is_empty.result (display_with_separator start) texts new last ps h none c.in_ok-put_space_before_brace.ensures.text ∙ whole,
    )
