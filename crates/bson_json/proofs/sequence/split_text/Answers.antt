use Rattle.std.proofs.Common.{sym, subst, ◌∙◌, inr, arith, ◌<◌, ◌≤◌, length, suc, add-one}
use Rattle.bson_json.specs.Sequence.{scan_state_of}
use Rattle.bson_json.proofs.Splits.{found_at_separator, placed_at_separator, split_at_end, split_on, split_start, IsSplit}
use Rattle.bson_json.proofs.sequence.split_text.Goals as goal

pub loop-byte_index-init : goal.loop-byte_index-init
loop-byte_index-init c = record { split = split_start c.args.separator c.args.content.now; depth = omega arith }

pub loop-byte_index-preserved : goal.loop-byte_index-preserved
loop-byte_index-preserved c =
    let xs = c.args.content.now in
    let inside : c.loop-byte_index.byte_index < length xs = omega (arith, c.loop-byte_index-test.true) in
    record {
      split = subst (λ n. IsSplit c.args.separator xs n (scan_state_of c.next_state-scan_state.result)) (sym (add-one c.loop-byte_index.byte_index))
          (subst (IsSplit c.args.separator xs (suc c.loop-byte_index.byte_index)) (sym c.next_state-scan_state.ensures.scan_state)
          (split_on c.args.separator xs c.loop-byte_index.byte_index (scan_state_of c.loop-byte_index.scan_state) inside (sym c.separates.ensures ∙ c.if-separates.false)
          c.loop-byte_index.invariant.split));
      depth = omega (arith, c.next_state-scan_state.ensures.depth, c.loop-byte_index.invariant.depth);
    }

pub returns-then-separates-clause-texts : goal.returns-then-separates-clause-texts
returns-then-separates-clause-texts c =
    let xs = c.args.content.now in
    let inside : c.loop-byte_index.byte_index < length xs = omega (arith, c.loop-byte_index-test.true) in
    found_at_separator c.args.separator xs c.loop-byte_index.byte_index (scan_state_of c.loop-byte_index.scan_state) inside (sym c.separates.ensures ∙ c.if-separates.true)
    c.loop-byte_index.invariant.split

pub returns-then-separates-clause-separator : goal.returns-then-separates-clause-separator
returns-then-separates-clause-separator c = inr (placed_at_separator c.args.content.now c.loop-byte_index.byte_index (omega (arith, c.loop-byte_index-test.true)))

pub returns-clause-texts : goal.returns-clause-texts
returns-clause-texts c =
    let xs = c.args.content.now in
    let all : length xs ≤ c.loop-byte_index.byte_index = omega (arith, c.loop-byte_index-test.false) in
    split_at_end c.args.separator xs _ c.loop-byte_index.byte_index (scan_state_of c.loop-byte_index.scan_state) all c.loop-byte_index.invariant.split
