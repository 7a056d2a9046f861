use Rattle.std.proofs.Common.{◌≡◌, Some, None, arith}
use Rattle.json.specs.Json.{value, after_end_array}
use Rattle.bson_text.proofs.Passing.{item_on, items_off}
use Rattle.bson_text.proofs.error_paths.skip_items.Goals as goal

pub items-init : goal.items-init
items-init c = λ n js r is. (n, js, is)

pub items-preserved : goal.items-preserved
items-preserved c = λ n js r is.
    let l = c.items in
    let going : (after_end_array l.reader ≡ None) × (c.take_end_array.new.self ≡ l.reader) = grind arith in
    let g = l.invariant n js r is in
    item_on (value c.args.depth) g.0 l.reader c.skip_value.new.self r g.1 going.0
    (rw (← going.1) c.in_ok-skip_value.ensures.value) g.2

pub returns : goal.returns
returns c = λ n js r is.
    let l = c.items in
    let closed : after_end_array l.reader ≡ Some c.take_end_array.new.self = grind arith in
    let g = l.invariant n js r is in
    items_off (value c.args.depth) g.0 l.reader c.take_end_array.new.self r g.1 closed g.2
