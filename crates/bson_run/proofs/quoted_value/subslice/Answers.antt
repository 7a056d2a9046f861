use Rattle.std.proofs.Common.{◌≤◌, length, arith, sym, zero-add}
use Rattle.bson_run.proofs.Parts.{all, of_back, of_front}
use Rattle.bson_run.proofs.quoted_value.subslice.Goals as goal

pub returns : goal.returns
returns c =
    let text = c.args.text.now in
    let start = c.args.start_offset in
    let whole = c.in_ok-front.front.now in
    let subslice = c.in_ok-subslice.subslice.now in
    let bare = c.trim_ascii_end.result.now in
    let last = c.trim_end_matches-subslice.result.now in
    let within : start ≤ length whole = omega (arith, c.in_ok-subslice.ensures.back_len) in
    let front = of_front c.args.end_offset 0 text text whole (all text) c.in_ok-front.ensures.front in
    let back = of_back start 0 text whole subslice front start (sym (zero-add start)) within c.in_ok-subslice.ensures.back in
    let space = c.trim_ascii_end.ensures.value in
    let more = c.trim_ascii_end-2.ensures.value in
    let without = of_front space.0 start text subslice bare back space.1 in
    let before = of_front (length last) start text bare last without c.trim_end_matches-subslice.ensures.value in
    of_front more.0 start text last _ before more.1
