use Rattle.std.proofs.Common.{rules, ◌<◌, ◌≤◌, ◌++◌, codes, length, string_bytes, ap, ◌∙◌, arith}
use Rattle.std.proofs.lemmas.Result.{on_ok_weaker}
use Rattle.bson_model.specs.Pretty.{closing_line}
use Rattle.bson.proofs.Joined.{join_more, at_get, appended}
use Rattle.bson.proofs.Places.{pair_from}
use Rattle.bson.specs.PrettyLines.{item_line, entry_line}
use Rattle.bson.proofs.Texts.{array_pretty, document_pretty}
use Rattle.bson.proofs.pretty.+pretty.Goals as goal

pub push_items-loop-element_index-preserved : goal.push_items-loop-element_index-preserved
push_items-loop-element_index-preserved t c =
    let vs = c.args.items.now.items in
    let indent = c.args.indent in
    let inside : c.loop-element_index.element_index < length vs = omega (arith, c.args.items.now.ok.0) in
    let more = join_more (item_line indent) (codes ", ") vs c.loop-element_index.element_index c.index.result.now inside c.index.ensures in
    appended _ _ _ (item_line indent c.index.result.now) _ _ _ c.loop-element_index.invariant c.in_ok-push_separator.ensures
    c.in_ok-push_item.ensures
    ∙ ap (λ l. string_bytes c.push_str-2.new.self ++ l) more

pub push_items-returns : goal.push_items-returns
push_items-returns t c =
    let vs = c.args.items.now.items in
    let indent = c.args.indent in
    let all : length vs ≤ c.loop-element_index.element_index = omega (arith, c.args.items.now.ok.0) in
    on_ok_weaker c.push_closing.result
    (λ d. appended _ _ _ (closing_line indent (codes "]")) _ _ _ c.in_ok-push_str.ensures.bytes c.loop-element_index.invariant d
    ∙ ap (λ l. string_bytes c.args.output.now ++ l) (array_pretty indent vs c.loop-element_index.element_index (search rules) all))
    c.push_closing.ensures

pub push_pairs-loop-element_index-preserved : goal.push_pairs-loop-element_index-preserved
push_pairs-loop-element_index-preserved t c =
    let ps = c.args.document.now.pairs in
    let indent = c.args.indent in
    let k = string_bytes c.key_at.result.now in
    let v = c.value_at.result.now in
    let inside : c.loop-element_index.element_index < length ps = omega (arith, c.len-element_index-end.ensures.len) in
    let line = rw c.as_str.ensures.value at c.in_ok-push_entry.ensures in
    let here = at_get ps c.loop-element_index.element_index (k, v) (pair_from ps c.loop-element_index.element_index k v c.key_at.ensures c.value_at.ensures) in
    appended _ _ _ (entry_line indent (k, v)) _ _ _ c.loop-element_index.invariant c.in_ok-push_separator.ensures line
    ∙ ap (λ l. string_bytes c.push_str-2.new.self ++ l)
    (join_more (entry_line indent) (codes ",\n") ps c.loop-element_index.element_index (k, v) inside here)

pub push_pairs-returns : goal.push_pairs-returns
push_pairs-returns t c =
    let ps = c.args.document.now.pairs in
    let indent = c.args.indent in
    let all : length ps ≤ c.loop-element_index.element_index = omega (arith, c.len-element_index-end.ensures.len) in
    let some : 0 < length ps = omega (arith, c.len.ensures.len) in
    on_ok_weaker c.push_closing.result
    (λ d. appended _ _ _ (closing_line indent (codes "}")) _ _ _ c.in_ok-push_str.ensures.bytes c.loop-element_index.invariant d
    ∙ ap (λ l. string_bytes c.args.output.now ++ l) (document_pretty indent ps c.loop-element_index.element_index some all))
    c.push_closing.ensures
