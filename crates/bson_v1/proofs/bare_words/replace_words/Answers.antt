use Rattle.std.proofs.Common.{◌≡◌, ◌≤◌, ◌<◌, ◌++◌, false, true, Ok, get_or, length, ap, sym, ◌∙◌, arith}
use Rattle.std.proofs.lemmas.List.Edits.{length-between}
use Rattle.std.specs.List.{between}
use Rattle.bson_v1.specs.BareWords.{continues_word, word_state_of}
use Rattle.bson_v1.proofs.Words.{goes_on, word_stays, word_replaced, last_replaced, last_stays, text_stays}
use Rattle.bson_v1.proofs.bare_words.replace_words.Goals as goal
use Rattle.bson_v1.proofs.bare_words.replace_words.Goals.{then-not-continues_word+in_ok-append_replaced, then-branch}
use Rattle.bson_v1.proofs.bare_words.replace_words.Goals.{else-branch, else-not-continues_word}

pub loop-offset-preserved : goal.loop-offset-preserved
loop-offset-preserved c =
    let xs = c.args.text.now in
    let l = c.loop-offset in
    let i = l.invariant in
    let m = word_state_of l.word_state in
    let within : l.offset < length xs = omega (arith, c.loop-offset-test.true) in
    let next = c.next_state-word_state.ensures in
    elim c.if-not-continues_word.branch [
      | then-not-continues_word+in_ok-append_replaced w ↦
          let ends : continues_word m (get_or xs l.offset 0) ≡ false = sym c.continues_word.ensures ∙ w.if-not-continues_word.true in
          let said = w.in_ok-append_replaced.ensures in
          elim w.if-branch.branch [
            | then-branch w' ↦
                rw (w.output-is, w.copied-is, w'.copied-is, w.word_start-is, next) (record {
                  front = omega arith;
                  word = omega arith;
                  inside = omega (arith, within);
                  nothing = λ zero. absurd (omega (
                    arith,
                    zero,
                    said.not_empty (ap Ok w'.if-branch.true),
                    length-between xs l.word_start l.offset i.inside,
                  ));
                  part = word_replaced c.args.word_form xs l.output.items l.copied l.word_start l.offset m i.front i.word i.part within
                      w.append_replaced.new.output.items ends (said.replaced (ap Ok w'.if-branch.true));
                })
            | else-branch w' ↦
                rw (w.output-is, w.copied-is, w'.copied-is, w.word_start-is, next, said.unchanged (ap Ok w'.if-branch.false)) (record {
                  front = omega (arith, i.front, i.word);
                  word = omega arith;
                  inside = omega (arith, within);
                  nothing = i.nothing;
                  part = word_stays c.args.word_form xs l.output.items l.copied l.word_start l.offset m i.front i.word i.part within
                      ends (said.stays (ap Ok w'.if-branch.false));
                })
          ]
      | else-not-continues_word w ↦
          let goes : continues_word m (get_or xs l.offset 0) ≡ true = sym c.continues_word.ensures ∙ w.if-not-continues_word.false in
          rw (w.output-is, w.copied-is, w.word_start-is, next) (record {
            front = i.front;
            word = omega (arith, i.word);
            inside = omega (arith, within);
            nothing = i.nothing;
            part = goes_on c.args.word_form xs l.output.items l.copied l.word_start l.offset m i.front i.word i.part within goes;
          })
    ]

pub returns-then-branch-2-clause-replaced : goal.returns-then-branch-2-clause-replaced
returns-then-branch-2-clause-replaced c =
    let xs = c.args.text.now in
    let l = c.loop-offset in
    let i = l.invariant in
    let all : length xs ≤ l.offset = omega (arith, c.loop-offset-test.false) in
    last_replaced c.args.word_form xs l.output.items l.copied l.word_start l.offset (word_state_of l.word_state) i.front i.word i.part
    all (omega (arith, i.word, i.inside)) c.append_replaced-2.new.output.items
    (c.in_ok-append_replaced-2.ensures.replaced (ap Ok c.if-branch-2.true))

pub returns-then-copied-eq0-clause-stays : goal.returns-then-copied-eq0-clause-stays
returns-then-copied-eq0-clause-stays c = λ none.
    let xs = c.args.text.now in
    let l = c.loop-offset in
    let i = l.invariant in
    let all : length xs ≤ l.offset = omega (arith, c.loop-offset-test.false) in
    text_stays c.args.word_form xs l.output.items l.copied l.word_start l.offset (word_state_of l.word_state) i.front i.word i.part
    all (omega (arith, i.word, i.inside)) c.if-copied-eq0.true (i.nothing c.if-copied-eq0.true)
    (c.in_ok-append_replaced-2.ensures.stays (ap Ok c.if-branch-2.false))

pub returns-clause-replaced : goal.returns-clause-replaced
returns-clause-replaced c =
    let xs = c.args.text.now in
    let l = c.loop-offset in
    let i = l.invariant in
    let all : length xs ≤ l.offset = omega (arith, c.loop-offset-test.false) in
    c.in_ok-extend_from_slice.ensures.items
    ∙ ap (λ o. o ++ between l.copied (length xs) xs) (c.in_ok-append_replaced-2.ensures.unchanged (ap Ok c.if-branch-2.false))
    ∙ sym (last_stays c.args.word_form xs l.output.items l.copied l.word_start l.offset (word_state_of l.word_state) i.front i.word i.part
    all (omega (arith, i.word, i.inside)) (c.in_ok-append_replaced-2.ensures.stays (ap Ok c.if-branch-2.false)))
