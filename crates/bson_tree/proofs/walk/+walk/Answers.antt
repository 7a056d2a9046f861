use Rattle.std.proofs.Common.{◌≡◌, length, sym, ap, ◌∙◌, subst, string_bytes, arith}
use Rattle.std.proofs.Common.{rules}
use Rattle.std.specs.Prelude.{is_some, true, false, IfOk}
use Rattle.std.specs.Vec.Iter.{into_iter_items}
use Rattle.std.proofs.lemmas.Bool.{false≢true}
use Rattle.std.proofs.lemmas.List.{nil_from_length}
use Rattle.serde_json.specs.Data.{object}
use Rattle.serde_json.specs.View.{view, items_view, members_view}
use Rattle.serde_json.specs.declared.value.Value.{the_lemmas}
use Rattle.bson_model.specs.Reading.{reads_tree_in}
use Rattle.bson_tree.specs.Built.{Builds}
use Rattle.bson_tree.specs.Place.{FaultAtIn}
use Rattle.bson_tree.proofs.SoFar.{items_begun, items_more, items_stopped, items_ended}
use Rattle.bson_tree.proofs.SoFar.{pairs_begun, pairs_fresh, pairs_more, pairs_stopped, pairs_ended}
use Rattle.bson_tree.proofs.Steps.{Member}
use Rattle.bson_tree.proofs.Steps.{array_place, document_place, scope_place, no_text_place}
use Rattle.bson_tree.proofs.Steps.{bad_scope_place, coded, has_code_keys, more_place, other_place}
use Rattle.bson_tree.proofs.walk.+walk.Goals as goal

-- ---- arrays

pub read_array-returns-in-Err : goal.read_array-returns-in-Err
read_array-returns-in-Err g t c =
    array_place c.args.doubles g.B.ValueBuilder.represents_items (items_view c.args.items.items) c.in_ok-items.field-0
    c.in-Err.place c.in-Err.is c.in_ok-items.ensures

pub read_items-loop-item-init : goal.read_items-loop-item-init
read_items-loop-item-init g t c =
    let gives = c.into_iter-item-iterator.ensures.into_iter_gives in
    let B = g.B.ValueBuilder in
    record {
      left = grind arith;
      counted = grind arith;
      built_so_far = rw gives.0 (items_begun c.args.doubles B.represents B.represents_items (items_view c.args.items.items) c.in_ok-built_so_far.built_so_far
          c.in_ok-built_so_far.ensures);
    }

pub read_items-loop-item-preserved : goal.read_items-loop-item-preserved
read_items-loop-item-preserved g t c =
    let l = c.loop-item in
    let B = g.B.ValueBuilder in
    let left = l.invariant.left in
    let counted = l.invariant.counted in
    let segments = c.in-Some.ensures.steps in
    let short = ap length segments.0 in
    record {
      left = omega arith;
      counted = omega arith;
      built_so_far = items_more c.args.doubles B.represents B.represents_items (items_view c.args.items.items) l.built_so_far c.push.new.items l.item_index
          (into_iter_items l.item-iterator) (into_iter_items c.next.new.self) c.in-Some.item c.in_ok-value.field-0
          c.in-Ok.value segments.0 l.invariant.built_so_far c.in-Ok.is c.in_ok-value.ensures c.in_ok-push-in-Ok.ensures;
    }

pub read_items-returns-in-Err : goal.read_items-returns-in-Err
read_items-returns-in-Err g t c =
    let l = c.loop-item in
    let B = g.B.ValueBuilder in
    let found = c.in_ok-with_segment-in-Err in
    items_stopped c.args.doubles B.represents B.represents_items (items_view c.args.items.items) l.built_so_far l.item_index
    (into_iter_items l.item-iterator) (into_iter_items c.next.new.self) c.in-Some.item c.in_ok-value.field-0
    c.in-Err.place found.field-0 c.in-Some.ensures.steps.0 l.invariant.built_so_far c.in-Err.is c.in_ok-value.ensures
    found.ensures.path found.ensures.reason

pub read_items-returns : goal.read_items-returns
read_items-returns g t c =
    let l = c.loop-item in
    let B = g.B.ValueBuilder in
    let left = into_iter_items l.item-iterator in
    items_ended c.args.doubles B.represents B.represents_items (items_view c.args.items.items) l.built_so_far l.item_index left
    (nil_from_length left (sym l.invariant.left ∙ c.in-None.ensures.steps.0)) l.invariant.built_so_far

-- ---- the pairs of a map

pub read_members-loop-key-init : goal.read_members-loop-key-init
read_members-loop-key-init g t c =
    let gives = c.into_iter-key-iterator.ensures.into_iter_gives in
    let B = g.B.ValueBuilder in
    rw gives.0 (pairs_begun c.args.doubles B.represents B.represents_pairs c.args.members.entries c.in_ok-built_so_far.built_so_far c.in_ok-built_so_far.ensures
    gives.5)

pub read_members-loop-key-preserved : goal.read_members-loop-key-preserved
read_members-loop-key-preserved g t c =
    let l = c.loop-key in
    let B = g.B.ValueBuilder in
    pairs_more c.args.doubles B.represents B.represents_pairs c.args.members.entries l.built_so_far c.put.new.pairs l.key-iterator
    c.next.new.self (c.in-Some.key, c.in-Some.value) c.in_ok-value.field-0 c.in-Ok.value c.in-Some.ensures.steps
    l.invariant c.in-Ok.is c.in_ok-value.ensures c.in_ok-put-in-Ok.ensures

pub read_members-put-requires : goal.read_members-put-requires
read_members-put-requires g t c =
    let l = c.loop-key in
    let B = g.B.ValueBuilder in
    pairs_fresh c.args.doubles B.represents B.represents_pairs c.args.members.entries l.built_so_far l.key-iterator c.next.new.self
    (c.in-Some.key, c.in-Some.value) c.in-Some.ensures.steps l.invariant

pub read_members-returns-in-Err : goal.read_members-returns-in-Err
read_members-returns-in-Err g t c =
    let l = c.loop-key in
    let B = g.B.ValueBuilder in
    let found = c.in_ok-with_segment-in-Err in
    pairs_stopped c.args.doubles B.represents B.represents_pairs c.args.members.entries l.built_so_far l.key-iterator c.next.new.self
    (c.in-Some.key, c.in-Some.value) c.in_ok-value.field-0 c.in-Err.place found.field-0 c.in-Some.ensures.steps
    l.invariant c.in-Err.is c.in_ok-value.ensures found.ensures.path found.ensures.reason

pub read_members-returns : goal.read_members-returns
read_members-returns g t c =
    let l = c.loop-key in
    let B = g.B.ValueBuilder in
    pairs_ended c.args.doubles B.represents B.represents_pairs c.args.members.entries l.built_so_far l.key-iterator c.in-None.ensures.steps.0
    l.invariant

-- ---- objects

pub read_object-returns-in-Err : goal.read_object-returns-in-Err
read_object-returns-in-Err g t c =
    document_place c.args.doubles g.B.ValueBuilder.represents_pairs (members_view c.args.members.entries) c.in_ok-pairs.field-0
    c.in-Err.place (sym c.first_wrapper.ensures.is_present ∙ ap is_some c.in_default.is) c.in-Err.is c.in_ok-pairs.ensures

pub read_code-returns-in_default : goal.read_code-returns-in_default
read_code-returns-in_default g t c =
    no_text_place c.args.doubles (view c.args.code) (view c.args.scope) c.wrong_shape_place.result (search (rules, the_lemmas))
    c.wrong_shape_place.ensures.reason c.wrong_shape_place.ensures.path

pub read_scope-returns : goal.read_scope-returns
read_scope-returns g t c =
    bad_scope_place c.args.doubles (string_bytes c.args.code) (view c.args.scope) c.wrong_shape_place.result
    (search (rules, the_lemmas)) (search (rules, the_lemmas)) c.wrong_shape_place.ensures.reason c.wrong_shape_place.ensures.path

pub read_scope_map-returns-in_ok-with_segment-in-Err : goal.read_scope_map-returns-in_ok-with_segment-in-Err
read_scope_map-returns-in_ok-with_segment-in-Err g t c =
    let found = c.in_ok-with_segment-in-Err in
    scope_place c.args.doubles g.B.ValueBuilder.represents_pairs (string_bytes c.args.code) (string_bytes c.in_ok-key-in-Err.key)
    (members_view c.args.members.entries) c.in_ok-scope.field-0 c.in-Err.place found.field-0 c.in-Err.is
    c.in_ok-scope.ensures c.in_ok-key-in-Err.ensures.ok found.ensures.path found.ensures.reason

pub read_wrapper_object-returns-then-not-is_empty : goal.read_wrapper_object-returns-then-not-is_empty
read_wrapper_object-returns-then-not-is_empty g t c =
    let rest = c.pop_first-2.new.self.entries in
    let some : length rest ≡ 0 → ⊥ = λ e. false≢true (sym c.if-not-is_empty.true ∙ c.is_empty.ensures.1 e) in
    more_place c.args.doubles c.args.members.entries c.pop_first.new.self.entries rest (c.in-Some.key, c.in-Some.value)
    (c.in-Some-pop_first.second_key, c.in-Some-pop_first.scope) c.wrong_shape_place.result c.in-Some.ensures.removal
    c.in-Some-pop_first.ensures.removal some c.requires c.wrong_shape_place.ensures.reason c.wrong_shape_place.ensures.path

pub read_wrapper_object-returns-then-not-is_code_with_scope : goal.read_wrapper_object-returns-then-not-is_code_with_scope
read_wrapper_object-returns-then-not-is_code_with_scope g t c =
    let found = c.wrong_shape_place-then-not-is_code_with_scope in
    let x : Member = (c.in-Some.key, c.in-Some.value) in
    let y : Member = (c.in-Some-pop_first.second_key, c.in-Some-pop_first.scope) in
    let second_key : has_code_keys x y ≡ false =
    rw (sym c.as_str.ensures.value, sym c.as_str-2.ensures.value) (sym c.is_code_with_scope.ensures
    ∙ c.if-not-is_code_with_scope.true) in
    other_place c.args.doubles c.args.members.entries c.pop_first.new.self.entries c.pop_first-2.new.self.entries x y
    found.result c.in-Some.ensures.removal c.in-Some-pop_first.ensures.removal
    (c.is_empty.ensures.0 c.if-not-is_empty.false) c.requires second_key found.ensures.reason found.ensures.path

pub read_wrapper_object-returns : goal.read_wrapper_object-returns
read_wrapper_object-returns g t c =
    let x : Member = (c.in-Some.key, c.in-Some.value) in
    let y : Member = (c.in-Some-pop_first.second_key, c.in-Some-pop_first.scope) in
    let keys : has_code_keys x y ≡ true =
    rw (sym c.as_str.ensures.value, sym c.as_str-2.ensures.value) (sym c.is_code_with_scope.ensures
    ∙ c.if-not-is_code_with_scope.false) in
    subst (λ ms. IfOk c.read_code.result
    (Builds g.B.ValueBuilder.represents (reads_tree_in c.args.doubles (object ms)) (λ f. FaultAtIn c.args.doubles f (object ms))))
    (coded c.args.members.entries c.pop_first.new.self.entries c.pop_first-2.new.self.entries x y
    c.in-Some.ensures.removal c.in-Some-pop_first.ensures.removal (c.is_empty.ensures.0 c.if-not-is_empty.false) keys)
    c.read_code.ensures
