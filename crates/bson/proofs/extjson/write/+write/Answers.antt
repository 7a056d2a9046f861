use Rattle.std.proofs.Common.{◌≡◌, ◌∷◌, ◌++◌, [], List, map, length, sym, ap, ◌∙◌, subst, string_bytes, arith}
use Rattle.std.proofs.Common.{append_assoc}
use Rattle.std.specs.Vec.Iter.{into_iter_items}
use Rattle.std.proofs.lemmas.List.{map-append, nil_from_length}
use Rattle.std.proofs.lemmas.Result.{err_from_is_err_and}
use Rattle.serde_json.specs.View.{view, members_view}
use Rattle.serde_json.proofs.Views.{members_view-insert_entry}
use Rattle.bson_scalar.specs.View.{scalar_view}
use Rattle.bson.specs.View.{bson_view, values_view, pairs_view, document_view}
use Rattle.bson_model.specs.Normal.{ItemsInRange, PairsInRange}
use Rattle.bson_model.specs.Writing.{writes_items_in, writes_pairs_in}
use Rattle.bson.specs.declared.bson.Bson.{Bson}
use Rattle.bson.proofs.OntoTree.{onto_items, onto_members, onto_items-ok, items_stop, items_step, onto_members-start}
use Rattle.bson.proofs.OntoTree.{members_step}
use Rattle.bson.proofs.Seen.{Entry, document_view-pairs}
use Rattle.bson.proofs.Stopped.{written_stopped}
use Rattle.bson.proofs.extjson.write.+write.Goals as goal

pub write_pairs-loop-key-init : goal.write_pairs-loop-key-init
write_pairs-loop-key-init t c =
    let none : c.new-members.result.entries ≡ [] = c.new-members.ensures.empty in
    let all = c.args.document.pairs in
    let start : c.into_iter-key-iterator.result ≡ all = c.into_iter-key-iterator.ensures.into_iter_gives
    ∙ c.into_pairs-key-items.ensures.pairs in
    record {
      split = ([], sym start);
      written =
          (λ i. onto_members c.args.doubles c.args.form (start i) (members_view (none i)))
          ∙ onto_members-start c.args.doubles c.args.form all c.into_pairs-key-items.ensures.distinct
          ∙ ap (writes_pairs_in c.args.doubles c.args.form) (sym (document_view-pairs c.args.document));
      within_type_range =
          λ h. subst PairsInRange (sym (document_view-pairs c.args.document))
          (subst (λ (xs : List Entry). PairsInRange (pairs_view xs)) start h);
    }

pub write_pairs-loop-key-preserved : goal.write_pairs-loop-key-preserved
write_pairs-loop-key-preserved t c =
    let total = writes_pairs_in c.args.doubles c.args.form (document_view c.args.document) in
    let steps = c.in-Some.ensures.steps in
    let k = string_bytes c.in-Some.key in
    let x : Entry = (k, c.in-Some.value) in
    let f = c.loop-key.invariant.split in
    let ms = members_view c.loop-key.members.entries in
    let now = subst (λ (xs : List Entry). onto_members c.args.doubles c.args.form xs ms ≡ total) steps
    c.loop-key.invariant.written in
    record {
      split = (f.0 ++ x ∷ [], f.1 ∙ ap (λ r. f.0 ++ r) steps ∙ sym (append_assoc f.0 (x ∷ []) c.next.new.self));
      written =
          let put_there = ap members_view c.in_ok-insert.ensures.entries
          ∙ members_view-insert_entry c.loop-key.members.entries c.in-Some.key c.in_ok-written.written in
          ap (onto_members c.args.doubles c.args.form c.next.new.self) put_there
          ∙ members_step c.args.doubles c.args.form c.next.new.self x
          (view c.in_ok-written.written) ms total c.in_ok-written.ensures.written now;
      within_type_range =
          λ h. c.loop-key.invariant.within_type_range
          (subst (λ (xs : List Entry). PairsInRange (pairs_view xs)) (sym steps) (c.in_ok-written.ensures.within_type_range, h));
    }

pub write_items-returns-in_err-write-clause-written : goal.write_items-returns-in_err-write-clause-written
write_items-returns-in_err-write-clause-written t c =
    let p = err_from_is_err_and c.from_residual-in_err-write.result c.from_residual-in_err-write.ensures.1 in
    let steps : into_iter_items c.loop-value.value-iterator ≡ c.in-Some.value ∷ into_iter_items c.next.new.self =
    c.in-Some.ensures.steps.0 in
    let total = writes_items_in c.args.doubles c.args.form (values_view c.args.values.items) in
    let done = map view c.loop-value.items.items in
    let now =
    subst (λ (xs : List Bson). onto_items done (writes_items_in c.args.doubles c.args.form (values_view xs)) ≡ total)
    steps
    c.loop-value.invariant.written in
    rw (p.1, p.2) (items_stop c.args.doubles c.args.form _ done (bson_view c.in-Some.value)
    (values_view (into_iter_items c.next.new.self)) total c.in_err-write.ensures.written now)

pub write_items-loop-value-preserved : goal.write_items-loop-value-preserved
write_items-loop-value-preserved t c =
    let steps : into_iter_items c.loop-value.value-iterator ≡ c.in-Some.value ∷ into_iter_items c.next.new.self =
    c.in-Some.ensures.steps.0 in
    let total = writes_items_in c.args.doubles c.args.form (values_view c.args.values.items) in
    let done = map view c.loop-value.items.items in
    let now =
    subst (λ (xs : List Bson). onto_items done (writes_items_in c.args.doubles c.args.form (values_view xs)) ≡ total)
    steps
    c.loop-value.invariant.written in
    record {
      left =
          let was = c.loop-value.invariant.left in
          let gone = c.in-Some.ensures.steps.1 in
          let short = ap length steps in
          omega arith;
      written =
          let pushed = ap (map view) c.in_ok-push.ensures.items
          ∙ map-append view c.loop-value.items.items (c.in_ok-write.field-0 ∷ []) in
          ap (λ xs. onto_items xs (writes_items_in c.args.doubles c.args.form
          (values_view (into_iter_items c.next.new.self)))) pushed
          ∙ items_step c.args.doubles c.args.form done (bson_view c.in-Some.value) (view c.in_ok-write.field-0)
          (values_view (into_iter_items c.next.new.self)) total c.in_ok-write.ensures.written now;
      within_type_range =
          λ h. c.loop-value.invariant.within_type_range
          (subst (λ (xs : List Bson). ItemsInRange (values_view xs)) (sym steps) (c.in_ok-write.ensures.within_type_range, h));
    }

pub write_items-returns-clause-written : goal.write_items-returns-clause-written
write_items-returns-clause-written t c =
    let at = c.loop-value in
    let none = c.in-None.ensures.steps in
    let empty : into_iter_items at.value-iterator ≡ [] = nil_from_length _ (sym at.invariant.left ∙ none.0) in
    let total = writes_items_in c.args.doubles c.args.form (values_view c.args.values.items) in
    let done = map view at.items.items in
    let now =
    subst (λ (xs : List Bson). onto_items done (writes_items_in c.args.doubles c.args.form (values_view xs)) ≡ total)
    empty
    at.invariant.written in
    sym now ∙ onto_items-ok done

pub write-returns-in_ok-scalar-in_default-clause-possible_errors :
    goal.write-returns-in_ok-scalar-in_default-clause-possible_errors
write-returns-in_ok-scalar-in_default-clause-possible_errors t c =
    written_stopped c.args.doubles c.args.form (scalar_view c.in_ok-scalar-in_default.scalar) view c.write_scalar_in.result
    c.can_be_written.ensures c.write_scalar_in.ensures.written
