use Rattle.std.proofs.Common.{rules, ◌≡◌, ◌+◌, ◌<◌, ◌≤◌, suc, List, [], ◌∷◌, ◌++◌, Ok, Err}
use Rattle.std.proofs.Math.Seq.{drop-cons}
use Rattle.bson_scalar.specs.declared.write_error.WriteError.TheVariants.{OutOfMemory}
use Rattle.std.proofs.Common.{refl, sym, ap, ◌∙◌, subst, string_bytes, arith, drop}
use Rattle.std.proofs.lemmas.List.{drop_all}
use Rattle.std.proofs.lemmas.Result.{err_from_is_err_and}
use Rattle.json.specs.Token.{begin_array, begin_object, key}
use Rattle.json.specs.Tree.{items_tokens, members_tokens}
use Rattle.serde_json.specs.Data.{string, no_items, no_members}
use Rattle.bson_scalar.specs.TreeText.{json_of_items, json_of_members}
use Rattle.bson_scalar.specs.Written.{IsWriteFailureOf}
use Rattle.bson_scalar.proofs.Offered.{in_turn}
use Rattle.bson_scalar.specs.Binaries.{binary_tree}
use Rattle.bson_scalar.specs.Scalar.{text, binary}
use Rattle.bson_model.specs.Value.{scalar, code_scope}
use Rattle.bson_model.specs.Normal.{PairsInRange}
use Rattle.bson_model.specs.DistinctKeys.{AllKeysDistinct}
use Rattle.bson.specs.KeyOrders.{writes_in_key_order, writes_items_in_key_order, EachValueSatisfies}
use Rattle.bson.specs.OutputCapacity.{key_capacity, values_capacity, pairs_capacity}
use Rattle.bson.specs.Texts.{code_tokens, writes_each_pair}
use Rattle.bson.specs.View.{bson_view, code_with_scope_view, values_view, pairs_view}
use Rattle.bson.specs.declared.bson.Bson.{Bson}
use Rattle.bson.specs.declared.bson.Bson as bson_form
use Rattle.bson.specs.declared.bson.JavaScriptCodeWithScope.{the_lemmas}
use Rattle.bson.proofs.Seen.{Entry}
use Rattle.bson.proofs.Printed.{EndsItems, EndsMembers, ordered_is, ranged_in, distinct_in, ends_more, stops_here}
use Rattle.bson.proofs.Printed.{stops_more, ranged_more, distinct_more, code_with_scope}
use Rattle.bson.proofs.Sizes.{NoLarger, walk_larger, next_smaller, rest_larger}
use Rattle.bson.proofs.Room.{after, ValuesCost, values_cost_here, PairsCost, key_cost, ordered_cost, pairs_cost_here}
use Rattle.bson.proofs.Room.{pairs_cost_more}
use Rattle.bson.proofs.KeyOrders.{binary_alike, text_alike}
use Rattle.bson.proofs.extjson.text_writer.+print.Goals as goal

pub print-returns-in_ok-string-in-String-clause-printed : goal.print-returns-in_ok-string-in-String-clause-printed
print-returns-in_ok-string-in-String-clause-printed t c =
    let o = c.args.key_order in
    let D = c.args.doubles in
    let f = c.args.form in
    let seen : bson_view (bson_form.String c.in-String.text) ≡ scalar (text (string_bytes c.in-String.text)) =
    search (rules, bson_form.the_lemmas) in
    let written = ap (λ v. writes_in_key_order o D f (bson_view v)) c.in-String.is ∙ ap (writes_in_key_order o D f) seen
    ∙ text_alike o D f (string_bytes c.in-String.text) ∙ ap (λ r. Ok (string r)) (sym c.as_str.ensures.value) in
    (string c.as_str.result.now, written, c.in_ok-string-in-String.ensures.ok)

pub print-returns-in_ok-put_binary-in-Binary-clause-printed :
    goal.print-returns-in_ok-put_binary-in-Binary-clause-printed
print-returns-in_ok-put_binary-in-Binary-clause-printed t c =
    let D = c.args.doubles in
    let f = c.args.form in
    let o = c.args.key_order in
    let b = c.in-Binary.binary in
    let seen : bson_view (bson_form.Binary b) ≡ scalar (binary b.subtype b.bytes.items) =
    search (rules, bson_form.the_lemmas) in (
      binary_tree b.subtype b.bytes.items,
      ap (λ v. writes_in_key_order o D f (bson_view v)) c.in-Binary.is
          ∙ ap (writes_in_key_order o D f) seen ∙ binary_alike o D f b.subtype b.bytes.items,
      c.in_ok-put_binary-in-Binary.ensures.put,
    )

pub print_items-returns-clause-printed : goal.print_items-returns-clause-printed
print_items-returns-clause-printed t c =
    let at = c.loop-item in
    let o = c.args.key_order in
    let D = c.args.doubles in
    let f = c.args.form in
    let all = c.args.values.now.items in
    let value = c.deref-item-items.ensures.value in
    let empty : drop at.item-index c.deref-item-items.result.now ≡ [] = drop_all at.item-index _ c.loop-item-test.false in
    let end = c.end_array.new.self.tokens in
    let done =
    at.invariant.ends end
    (subst (λ (xs : List Bson). EndsItems (writes_items_in_key_order o D f (values_view xs)) at.writer.tokens end) (sym empty)
    (no_items, refl, c.in_ok-end_array.ensures.ok)) in (
      done.0,
      ap (λ (xs : List Bson). writes_items_in_key_order o D f (values_view xs)) (sym value)
          ∙ done.1,
      in_turn c.args.writer.now.tokens (begin_array ∷ []) c.begin_array.new.self.tokens
          (items_tokens (json_of_items done.0)) end c.in_ok-begin_array.ensures.ok done.2,
    )

pub print_code_with_scope-returns-clause-printed : goal.print_code_with_scope-returns-clause-printed
print_code_with_scope-returns-clause-printed t c =
    let it = c.args.code_with_scope.now in
    let o = c.args.key_order in
    let D = c.args.doubles in
    let f = c.args.form in
    let s = string_bytes it.code in
    let old = c.args.writer.now.tokens in
    let seen : code_scope s (pairs_view it.scope.pairs) ≡ code_with_scope_view it = search (rules, the_lemmas) in
    let opened = subst (λ z. c.put_code.new.writer.tokens ≡ old ++ code_tokens z) c.as_str.ensures.value
    c.in_ok-put_code.ensures.put in
    let done = code_with_scope o D f s (pairs_view it.scope.pairs) old c.put_code.new.writer.tokens c.print_document.new.writer.tokens
    c.end_object.new.self.tokens opened c.in_ok-print_document.ensures.printed c.in_ok-end_object.ensures.ok in
    (done.0, ap (writes_in_key_order o D f) (sym seen) ∙ done.1, done.2)

-- ---- arrays, the room

pub print_items-returns-in_err-print-clause-room : goal.print_items-returns-in_err-print-clause-room
print_items-returns-in_err-print-clause-room t c =
    let at = c.loop-item in
    let D = c.args.doubles in
    let f = c.args.form in
    let items = c.deref-item-items.result.now in
    let x = c.item-item.result in
    let e = c.in_err-print.field-0.0 in
    let new = c.print.new.writer.spare in
    let here : drop at.item-index items ≡ x ∷ drop (suc at.item-index) items =
    drop-cons items at.item-index x c.loop-item-test.true ∙ ap (λ y. y ∷ drop (suc at.item-index) items) (sym c.item-item.is) in
    let left = subst (λ (xs : List Bson). ValuesCost D f (values_view xs) (Err e) at.writer.spare new) (sym here)
    (values_cost_here D f (bson_view x) (values_view (drop (suc at.item-index) items)) e at.writer.spare new new
    c.in_err-print.ensures.room) in
    let all = subst (λ (xs : List Bson). ValuesCost D f (values_view xs) (Err e) c.begin_array.new.self.spare new)
    c.deref-item-items.ensures.value (at.invariant.room (Err e) new left) in
    let p = err_from_is_err_and c.from_residual-in_err-print.result c.from_residual-in_err-print.ensures.1 in
    rw (p.1, p.2)
    (λ direct. after (Err e) c.args.writer.now.spare c.begin_array.new.self.spare new 2
    (values_capacity D f (values_view c.args.values.now.items)) c.in_ok-begin_array.ensures.room.1 (all direct))

pub print_items-returns-in_err-end_array-clause-room : goal.print_items-returns-in_err-end_array-clause-room
print_items-returns-in_err-end_array-clause-room t c =
    let at = c.loop-item in
    let D = c.args.doubles in
    let f = c.args.form in
    let new = c.end_array.new.self.spare in
    let empty : drop at.item-index c.deref-item-items.result.now ≡ [] = drop_all at.item-index _ c.loop-item-test.false in
    let left = subst (λ (xs : List Bson). ValuesCost D f (values_view xs) (Err OutOfMemory) at.writer.spare new) (sym empty)
    (λ d. c.in_err-end_array.ensures.room.1.0) in
    let all = subst (λ (xs : List Bson). ValuesCost D f (values_view xs) (Err OutOfMemory) c.begin_array.new.self.spare new)
    c.deref-item-items.ensures.value (at.invariant.room (Err OutOfMemory) new left) in
    let p = err_from_is_err_and c.from_residual-in_err-end_array.result c.from_residual-in_err-end_array.ensures.1 in
    rw (p.1, p.2)
    (λ direct. after (Err OutOfMemory) c.args.writer.now.spare c.begin_array.new.self.spare new 2
    (values_capacity D f (values_view c.args.values.now.items)) c.in_ok-begin_array.ensures.room.1 (all direct))

pub print_items-returns-clause-room : goal.print_items-returns-clause-room
print_items-returns-clause-room t c =
    let at = c.loop-item in
    let D = c.args.doubles in
    let f = c.args.form in
    let new = c.end_array.new.self.spare in
    let empty : drop at.item-index c.deref-item-items.result.now ≡ [] = drop_all at.item-index _ c.loop-item-test.false in
    let left = subst (λ (xs : List Bson). ValuesCost D f (values_view xs) (Ok tt) at.writer.spare new) (sym empty)
    (λ d. c.in_ok-end_array.ensures.room.1) in
    let all = subst (λ (xs : List Bson). ValuesCost D f (values_view xs) (Ok tt) c.begin_array.new.self.spare new)
    c.deref-item-items.ensures.value (at.invariant.room (Ok tt) new left) in
    λ direct. after (Ok tt) c.args.writer.now.spare c.begin_array.new.self.spare new 2
    (values_capacity D f (values_view c.args.values.now.items)) c.in_ok-begin_array.ensures.room.1 (all direct)

-- ---- documents

pub print_document-pairs-init : goal.print_document-pairs-init
print_document-pairs-init t c =
    let d = c.args.document.now in
    let o = c.args.key_order in
    let all = c.into_iter-key-iterator.ensures.into_iter_gives ∙ c.pairs_in_key_order-key-items.ensures.pairs in
    let distinct = c.pairs_in_key_order-key-items.ensures.distinct in
    let same = ap (λ (xs : List Entry). writes_each_pair (writes_in_key_order o c.args.doubles c.args.form) (pairs_view xs)) all
    ∙ ordered_is o c.args.doubles c.args.form d.pairs distinct in
    record {
      before = refl;
      ends = λ end h. subst (λ r. EndsMembers r c.begin_object.new.self.tokens end) same h;
      stops = λ e h. subst (IsWriteFailureOf e) same h;
      within_type_range = λ h. ranged_in o d.pairs distinct (subst (λ (xs : List Entry). PairsInRange (pairs_view xs)) all h);
      distinct = λ h. distinct_in o d.pairs distinct (subst (λ (xs : List Entry). EachValueSatisfies AllKeysDistinct (pairs_view xs)) all h);
      room = λ r end h. ordered_cost c.args.doubles c.args.form o d.pairs distinct r c.begin_object.new.self.spare end
          (subst (λ (xs : List Entry). PairsCost c.args.doubles c.args.form (pairs_view xs) r c.begin_object.new.self.spare end)
          all h);
      larger = subst (λ xs. NoLarger xs d) (sym all) (walk_larger o d);
    }

pub print_document-print-requires : goal.print_document-print-requires
print_document-print-requires t c =
    let at = c.pairs in
    let h = next_smaller c.args.document.now at.key-iterator c.next.new.self (string_bytes c.in-Some.key.now)
    c.in-Some.value.now c.in-Some.ensures.steps at.invariant.larger in
    (omega (arith, h, c.decreases), tt)

pub print_document-returns-in_err-print-clause-printed : goal.print_document-returns-in_err-print-clause-printed
print_document-returns-in_err-print-clause-printed t c =
    let at = c.pairs in
    let w = writes_in_key_order c.args.key_order c.args.doubles c.args.form in
    let p = err_from_is_err_and c.from_residual-in_err-print.result c.from_residual-in_err-print.ensures.1 in
    rw (p.1, p.2)
    (at.invariant.stops _ (stops_here w at.key-iterator c.next.new.self (string_bytes c.in-Some.key.now)
    c.in-Some.value.now c.in-Some.ensures.steps _ c.in_err-print.ensures.printed))

pub print_document-pairs-preserved : goal.print_document-pairs-preserved
print_document-pairs-preserved t c =
    let w = writes_in_key_order c.args.key_order c.args.doubles c.args.form in
    let at = c.pairs in
    let k = string_bytes c.in-Some.key.now in
    let v = c.in-Some.value.now in
    let rest = c.next.new.self in
    let here = c.in-Some.ensures.steps in
    let p = c.in_ok-print.ensures.printed in
    let near : c.key.new.self.tokens ≡ at.writer.tokens ++ key k ∷ [] =
    subst (λ z. c.key.new.self.tokens ≡ at.writer.tokens ++ key z ∷ []) c.as_str.ensures.value
    c.in_ok-key.ensures.ok in
    let spent : at.writer.spare ≤ c.key.new.self.spare + key_capacity k =
    subst (λ z. at.writer.spare ≤ c.key.new.self.spare + key_capacity z) c.as_str.ensures.value c.in_ok-key.ensures.room.1 in
    record {
      before = c.in_ok-print.ensures.before ∙ c.in_ok-key.ensures.room.0 ∙ at.invariant.before;
      ends =
          λ end h. at.invariant.ends end
          (ends_more w _ rest k v here at.writer.tokens c.key.new.self.tokens c.print.new.writer.tokens end near p h);
      stops = λ e h. at.invariant.stops e (stops_more w _ rest k v here e p.0 p.1 h);
      within_type_range = λ h. at.invariant.within_type_range (ranged_more _ rest k v here c.in_ok-print.ensures.within_type_range h);
      distinct = λ h. at.invariant.distinct (distinct_more _ rest k v here c.in_ok-print.ensures.distinct h);
      room =
          λ r end h. at.invariant.room r end
          (pairs_cost_more c.args.doubles c.args.form _ rest k v here r at.writer.spare c.key.new.self.spare
          c.print.new.writer.spare end spent c.in_ok-print.ensures.room h);
      larger = rest_larger c.args.document.now _ rest k v here at.invariant.larger;
    }

pub print_document-returns-clause-printed : goal.print_document-returns-clause-printed
print_document-returns-clause-printed t c =
    let at = c.pairs in
    let end = c.end_object.new.self.tokens in
    let empty : at.key-iterator ≡ [] = c.in-None.ensures.steps.0 in
    let done =
    at.invariant.ends end
    (subst (λ (xs : List Entry).
    EndsMembers (writes_each_pair (writes_in_key_order c.args.key_order c.args.doubles c.args.form) (pairs_view xs)) at.writer.tokens end)
    (sym empty) (no_members, refl, c.in_ok-end_object.ensures.ok)) in (
      done.0,
      done.1,
      in_turn c.args.writer.now.tokens (begin_object ∷ []) c.begin_object.new.self.tokens
          (members_tokens (json_of_members done.0)) end c.in_ok-begin_object.ensures.ok done.2,
    )

pub print_document-returns-clause-within_type_range : goal.print_document-returns-clause-within_type_range
print_document-returns-clause-within_type_range t c =
    c.pairs.invariant.within_type_range
    (subst (λ (xs : List Entry). PairsInRange (pairs_view xs)) (sym c.in-None.ensures.steps.0) tt)

pub print_document-returns-clause-distinct : goal.print_document-returns-clause-distinct
print_document-returns-clause-distinct t c =
    c.pairs.invariant.distinct
    (subst (λ (xs : List Entry). EachValueSatisfies AllKeysDistinct (pairs_view xs)) (sym c.in-None.ensures.steps.0) tt)

-- ---- documents, the room

pub print_document-returns-in_err-key-clause-room : goal.print_document-returns-in_err-key-clause-room
print_document-returns-in_err-key-clause-room t c =
    let at = c.pairs in
    let D = c.args.doubles in
    let f = c.args.form in
    let k = string_bytes c.in-Some.key.now in
    let new = c.key.new.self.spare in
    let short : at.writer.spare < key_capacity k =
    subst (λ z. at.writer.spare < key_capacity z) c.as_str.ensures.value c.in_err-key.ensures.room.1.0 in
    let all = at.invariant.room (Err OutOfMemory) new
    (key_cost D f at.key-iterator c.next.new.self k c.in-Some.value.now c.in-Some.ensures.steps at.writer.spare new short) in
    let p = err_from_is_err_and c.from_residual-in_err-key.result c.from_residual-in_err-key.ensures.1 in
    rw (p.1, p.2)
    (λ direct. after (Err OutOfMemory) c.args.writer.now.spare c.begin_object.new.self.spare new 2
    (pairs_capacity D f (pairs_view c.args.document.now.pairs)) c.in_ok-begin_object.ensures.room.1 (all direct))

pub print_document-returns-in_err-print-clause-room : goal.print_document-returns-in_err-print-clause-room
print_document-returns-in_err-print-clause-room t c =
    let at = c.pairs in
    let D = c.args.doubles in
    let f = c.args.form in
    let k = string_bytes c.in-Some.key.now in
    let e = c.in_err-print.field-0.0 in
    let new = c.print.new.writer.spare in
    let spent : at.writer.spare ≤ c.key.new.self.spare + key_capacity k =
    subst (λ z. at.writer.spare ≤ c.key.new.self.spare + key_capacity z) c.as_str.ensures.value c.in_ok-key.ensures.room.1 in
    let all = at.invariant.room (Err e) new
    (pairs_cost_here D f at.key-iterator c.next.new.self k c.in-Some.value.now c.in-Some.ensures.steps e at.writer.spare
    c.key.new.self.spare new new spent c.in_err-print.ensures.room) in
    let p = err_from_is_err_and c.from_residual-in_err-print.result c.from_residual-in_err-print.ensures.1 in
    rw (p.1, p.2)
    (λ direct. after (Err e) c.args.writer.now.spare c.begin_object.new.self.spare new 2
    (pairs_capacity D f (pairs_view c.args.document.now.pairs)) c.in_ok-begin_object.ensures.room.1 (all direct))

pub print_document-returns-in_err-end_object-clause-room : goal.print_document-returns-in_err-end_object-clause-room
print_document-returns-in_err-end_object-clause-room t c =
    let at = c.pairs in
    let D = c.args.doubles in
    let f = c.args.form in
    let new = c.end_object.new.self.spare in
    let all = at.invariant.room (Err OutOfMemory) new
    (subst (λ (xs : List Entry). PairsCost D f (pairs_view xs) (Err OutOfMemory) at.writer.spare new)
    (sym c.in-None.ensures.steps.0) (λ d. c.in_err-end_object.ensures.room.1.0)) in
    let p = err_from_is_err_and c.from_residual-in_err-end_object.result c.from_residual-in_err-end_object.ensures.1 in
    rw (p.1, p.2)
    (λ direct. after (Err OutOfMemory) c.args.writer.now.spare c.begin_object.new.self.spare new 2
    (pairs_capacity D f (pairs_view c.args.document.now.pairs)) c.in_ok-begin_object.ensures.room.1 (all direct))

pub print_document-returns-clause-room : goal.print_document-returns-clause-room
print_document-returns-clause-room t c =
    let at = c.pairs in
    let D = c.args.doubles in
    let f = c.args.form in
    let new = c.end_object.new.self.spare in
    let all = at.invariant.room (Ok tt) new
    (subst (λ (xs : List Entry). PairsCost D f (pairs_view xs) (Ok tt) at.writer.spare new)
    (sym c.in-None.ensures.steps.0) (λ d. c.in_ok-end_object.ensures.room.1)) in
    λ direct. after (Ok tt) c.args.writer.now.spare c.begin_object.new.self.spare new 2
    (pairs_capacity D f (pairs_view c.args.document.now.pairs)) c.in_ok-begin_object.ensures.room.1 (all direct)
