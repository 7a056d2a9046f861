use Rattle.std.proofs.Common.{rules, ◌<◌, ◌≤◌, codes, length, string_bytes, refl, arith}
use Rattle.bson.proofs.Joined.{join_more, at_get, written}
use Rattle.bson.proofs.Places.{pair_from}
use Rattle.bson.proofs.Texts.{item_text, entry_text, array_displayed, document_displayed}
use Rattle.bson.proofs.display.+show.Goals as goal

pub show_items-loop-element_index-preserved : goal.show_items-loop-element_index-preserved
show_items-loop-element_index-preserved g t c =
    let vs = c.args.items.now.items in
    let inside : c.loop-element_index.element_index < length vs = omega (arith, c.args.items.now.ok.0) in
    written g.W.Write.write_str_gives _ _ _ _ _ _ _ _ c.loop-element_index.invariant (λ p. c.in_ok-show_separator.ensures p refl)
    (λ p. c.in_ok-show.ensures p refl)
    (join_more item_text (codes ", ") vs c.loop-element_index.element_index c.index.result.now inside c.index.ensures)

pub show_items-returns : goal.show_items-returns
show_items-returns g t c = λ plain ok.
    let vs = c.args.items.now.items in
    let all : length vs ≤ c.loop-element_index.element_index = omega (arith, c.args.items.now.ok.0) in
    written g.W.Write.write_str_gives _ _ _ _ _ _ _ _ (λ p. c.in_ok-write_str.ensures.writes p refl) c.loop-element_index.invariant
    (λ p. c.write_str-3.ensures.writes p ok) (array_displayed vs c.loop-element_index.element_index (search rules) all) plain

pub show_pairs-loop-element_index-preserved : goal.show_pairs-loop-element_index-preserved
show_pairs-loop-element_index-preserved g t c =
    let ps = c.args.document.now.pairs in
    let k = string_bytes c.key_at.result.now in
    let v = c.value_at.result.now in
    let here = at_get ps c.loop-element_index.element_index (k, v) (pair_from ps c.loop-element_index.element_index k v c.key_at.ensures c.value_at.ensures) in
    let inside : c.loop-element_index.element_index < length ps = omega (arith, c.len-element_index-end.ensures.len) in
    let entry = rw c.as_str.ensures.value at c.in_ok-show_entry.ensures in
    written g.W.Write.write_str_gives _ _ _ _ _ _ _ _ c.loop-element_index.invariant (λ p. c.in_ok-show_separator.ensures p refl)
    (λ p. entry p refl) (join_more entry_text (codes ", ") ps c.loop-element_index.element_index (k, v) inside here)

pub show_pairs-returns : goal.show_pairs-returns
show_pairs-returns g t c = λ plain ok.
    let ps = c.args.document.now.pairs in
    let all : length ps ≤ c.loop-element_index.element_index = omega (arith, c.len-element_index-end.ensures.len) in
    let some : 0 < length ps = omega (arith, c.len.ensures.len) in
    written g.W.Write.write_str_gives _ _ _ _ _ _ _ _ (λ p. c.in_ok-write_str.ensures.writes p refl) c.loop-element_index.invariant
    (λ p. c.write_str-3.ensures.writes p ok) (document_displayed ps c.loop-element_index.element_index some all) plain
