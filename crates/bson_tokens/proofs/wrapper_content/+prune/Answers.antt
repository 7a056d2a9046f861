use Rattle.std.proofs.Common.{◌≡◌, ◌-◌, length, Some, None, option_map, sym, ap, ◌∙◌}
use Rattle.std.proofs.Common.{arith}
use Rattle.std.proofs.lemmas.Result.{err_from_is_err_and}
use Rattle.json.specs.Json.{parse_map, after_end_array, read_key, value}
use Rattle.serde_json.specs.Data.{array, object, item, no_items, no_members, put}
use Rattle.serde_json.specs.Read.{of_json, converted}
use Rattle.serde_json.specs.View.{items_view, members_view}
use Rattle.serde_json.proofs.Views.{view-Array, view-Object}
use Rattle.bson_tokens.specs.WrapperContent.{member_added, members_or_empty, pruned}
use Rattle.bson_tokens.proofs.Elements.{none_listed, one_listed, all_listed}
use Rattle.bson_tokens.proofs.Collecting.{none_yet, one_collected, all_collected}
use Rattle.bson_tokens.proofs.Pruned.{kept_put, pruned_object, pruned_primitive}
use Rattle.bson_tokens.proofs.HeldRounds.{no_item, no_key, no_member}
use Rattle.bson_tokens.proofs.Starts.{primitive_read, array_read, object_read}
use Rattle.bson_tokens.specs.ValueStart.{primitive_tree}
use Rattle.bson_tokens.proofs.wrapper_content.+prune.Goals as goal

pub pruned_value-returns-in_ok-primitive_value-in-Primitive-clause-ok :
    goal.pruned_value-returns-in_ok-primitive_value-in-Primitive-clause-ok
pruned_value-returns-in_ok-primitive_value-in-Primitive-clause-ok t c =
    let p = c.in-Primitive.primitive in (
      primitive_tree p,
      primitive_read c.args.depth c.args.reader.now c.read_start.new.reader _ p c.in-Primitive.is c.in_ok-start.ensures.ok,
      c.in_ok-primitive_value-in-Primitive.ensures ∙ sym (pruned_primitive c.args.max_levels p),
    )

pub pruned_value-returns-in_ok-kept_members-in-Object-clause-ok :
    goal.pruned_value-returns-in_ok-kept_members-in-Object-clause-ok
pruned_value-returns-in_ok-kept_members-in-Object-clause-ok t c =
    let members_so_far = c.in_ok-kept_members-in-Object in
    let ms = members_so_far.ensures.ok in (
      object ms.0,
      object_read c.args.depth c.args.reader.now c.read_start.new.reader _ c.in-Object.is c.in_ok-start.ensures.ok
          ∙ ap (parse_map object) ms.1,
      view-Object members_so_far.field-0 ∙ ap object ms.2 ∙ sym (pruned_object c.args.max_levels ms.0),
    )

pub pruned_value-returns-in_ok-skip_items-in-Array-clause-ok : goal.pruned_value-returns-in_ok-skip_items-in-Array-clause-ok
pruned_value-returns-in_ok-skip_items-in-Array-clause-ok t c =
    let ds = c.in_ok-skip_items-in-Array.ensures.ok in (
      array ds.0,
      array_read c.args.depth c.args.reader.now c.read_start.new.reader _ c.in-Array.is c.in_ok-start.ensures.ok
          ∙ ap (parse_map array) ds.1,
      view-Array c.new.result ∙ ap (λ vs. array (items_view vs)) c.new.ensures.items,
    )

pub skip_items-items-init : goal.skip_items-items-init
skip_items-items-init t c = (λ ds. ds, none_listed c.args.depth c.args.reader.now)

pub skip_items-items-preserved : goal.skip_items-items-preserved
skip_items-items-preserved t c =
    let l = c.items in
    let front = l.invariant.0 in
    let r = c.pruned_value.new.reader in
    let d = c.in_ok-pruned_value.ensures.ok in
    let going : (after_end_array l.reader ≡ None) × (c.take_end_array.new.self ≡ l.reader) = grind arith in (
      λ ds. front (item d.0 ds),
      one_listed c.args.depth c.args.reader.now l.reader c.take_end_array.new.self r front
          d.0 l.invariant.1 going.0 going.1 d.1 c.in_ok-pruned_value.ensures.shorter,
    )

pub skip_items-returns-clause-ok : goal.skip_items-returns-clause-ok
skip_items-returns-clause-ok t c =
    let l = c.items in
    let r = c.take_end_array.new.self in (
      l.invariant.0 no_items,
      all_listed c.args.depth c.args.reader.now l.reader r l.invariant.0 l.invariant.1 (grind arith),
    )

pub kept_members-members-init : goal.kept_members-members-init
kept_members-members-init t c =
    (no_members, none_yet c.args.depth no_members c.args.reader.now, c.no_members_yet-members_so_far.ensures)

pub kept_members-members-preserved : goal.kept_members-members-preserved
kept_members-members-preserved t c =
    let l = c.members in
    let k = c.in-Some.member_key.now in
    let s = c.next_key.new.self in
    let r = c.pruned_value.new.reader in
    let so_far = l.invariant.0 in
    let named : read_key l.reader ≡ Some (Some k, s) = grind arith in
    let d = c.in_ok-member.ensures.ok in (
      put k d.0 so_far,
      one_collected c.args.depth no_members k c.args.reader.now l.reader s r so_far d.0 l.invariant.1 named d.1
          c.in_ok-member.ensures.shorter,
      c.in_ok-members_so_far.ensures ∙ ap (λ x. member_added k x (option_map (λ m. members_view m.entries) l.members_so_far)) d.2
          ∙ ap (λ n. member_added k (pruned n d.0) (option_map (λ m. members_view m.entries) l.members_so_far)) (grind arith)
          ∙ ap (member_added k (pruned (c.args.max_levels - 1) d.0)) l.invariant.2
          ∙ sym (kept_put c.args.max_levels k d.0 so_far),
    )

pub kept_members-returns-clause-ok : goal.kept_members-returns-clause-ok
kept_members-returns-clause-ok t c =
    let l = c.members in
    let so_far = l.invariant.0 in
    let r = c.next_key.new.self in (
      so_far,
      all_collected c.args.depth no_members c.args.reader.now l.reader r so_far l.invariant.1 (grind arith)
          (length c.args.reader.now) (omega arith),
      c.members_or_empty.ensures ∙ ap members_or_empty l.invariant.2,
    )

-- ---- where the text breaks

pub pruned_value-returns-in_err-skip_items-in-Array-clause-broken :
    goal.pruned_value-returns-in_err-skip_items-in-Array-clause-broken
pruned_value-returns-in_err-skip_items-in-Array-clause-broken t c =
    let returned = c.from_residual-in_err-skip_items-in-Array in
    let p = err_from_is_err_and returned.result returned.ensures.1 in
    rw (p.1, p.2) (λ broken.
    array_read c.args.depth c.args.reader.now c.read_start.new.reader _ c.in-Array.is c.in_ok-start.ensures.ok
    ∙ ap (parse_map array) (c.in_err-skip_items-in-Array.ensures.broken broken))

pub pruned_value-returns-in_err-kept_members-in-Object-clause-broken :
    goal.pruned_value-returns-in_err-kept_members-in-Object-clause-broken
pruned_value-returns-in_err-kept_members-in-Object-clause-broken t c =
    let returned = c.from_residual-in_err-kept_members-in-Object in
    let p = err_from_is_err_and returned.result returned.ensures.1 in
    rw (p.1, p.2) (λ broken.
    object_read c.args.depth c.args.reader.now c.read_start.new.reader _ c.in-Object.is c.in_ok-start.ensures.ok
    ∙ ap (parse_map object)
    (c.in_err-kept_members-in-Object.ensures.broken broken no_members (length c.read_start.new.reader)))

pub skip_items-returns-in_err-pruned_value-clause-broken : goal.skip_items-returns-in_err-pruned_value-clause-broken
skip_items-returns-in_err-pruned_value-clause-broken t c =
    let l = c.items in
    let going : (after_end_array l.reader ≡ None) × (c.take_end_array.new.self ≡ l.reader) = grind arith in
    let p = err_from_is_err_and c.from_residual.result c.from_residual.ensures.1 in
    rw (p.1, p.2) (λ broken. l.invariant.1.none (no_item c.args.depth l.reader going.0
    (ap (λ ts. converted of_json (value c.args.depth ts)) (sym going.1) ∙ c.in_err-pruned_value.ensures.broken broken))
    (length c.args.reader.now))

pub kept_members-returns-in_err-member_key-clause-broken : goal.kept_members-returns-in_err-member_key-clause-broken
kept_members-returns-in_err-member_key-clause-broken t c =
    let l = c.members in
    let p = err_from_is_err_and c.from_residual.result c.from_residual.ensures.1 in
    rw p.1 (λ broken. l.invariant.1.none (no_key c.args.depth l.reader (grind arith)))

pub kept_members-returns-in_err-member-clause-broken : goal.kept_members-returns-in_err-member-clause-broken
kept_members-returns-in_err-member-clause-broken t c =
    let l = c.members in
    let k = c.in-Some.member_key.now in
    let s = c.next_key.new.self in
    let named : read_key l.reader ≡ Some (Some k, s) = grind arith in
    let p = err_from_is_err_and c.from_residual-in_err-member.result c.from_residual-in_err-member.ensures.1 in
    rw (p.1, p.2) (λ broken. l.invariant.1.none
    (no_member c.args.depth k l.reader s named (c.in_err-member.ensures.broken broken)))
