use Rattle.std.proofs.Common.{◌≡◌, Some, None, arith, refl, sym, ap, ◌∙◌, is_some, ◌||◌}
use Rattle.json.specs.Json.{value, read_key}
use Rattle.bson_scalar.specs.Table.{wrapper_of}
use Rattle.bson_text.specs.ErrorPaths.{has_wrapper_key}
use Rattle.bson_text.proofs.Passing.{member_on, members_off, or_again, or_none}
use Rattle.bson_text.proofs.error_paths.skip_members.Goals as goal

pub members-init : goal.members-init
members-init c = λ n ms r is. (n, ms, is, refl)

pub members-preserved : goal.members-preserved
members-preserved c = λ n ms r is.
    let l = c.members in
    let k = c.in-Some.key.now in
    let named : read_key l.reader ≡ Some (Some k, c.next_key.new.self) = grind arith in
    let g = l.invariant n ms r is in
    let h = member_on (value c.args.depth) g.0 k l.reader c.next_key.new.self c.skip_value.new.self r g.1 named
    c.in_ok-skip_value.ensures.value g.2 in (
      h.0,
      h.1,
      h.2,
      or_again (is_some l.first_wrapper) (is_some (wrapper_of k)) (has_wrapper_key h.1) (has_wrapper_key ms) (has_wrapper_key g.1) g.3 h.3
          ∙ ap (λ b. b || has_wrapper_key h.1) (sym c.earliest_wrapper-first_wrapper.ensures),
    )

pub returns : goal.returns
returns c = λ n ms r is.
    let l = c.members in
    let ended : read_key l.reader ≡ Some (None, c.next_key.new.self) = grind arith in
    let g = l.invariant n ms r is in
    let h = members_off (value c.args.depth) g.0 l.reader c.next_key.new.self r g.1 ended g.2 in
    (h.0, or_none (is_some l.first_wrapper) (has_wrapper_key g.1) (has_wrapper_key ms) g.3 h.1)
