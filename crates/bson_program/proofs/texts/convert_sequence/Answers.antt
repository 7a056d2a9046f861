use Rattle.std.proofs.Common.{◌∙◌, ◌+◌, ◌<◌, cond, length, subst, sym}
use Rattle.std.proofs.lemmas.Result.{err_from_is_err_and}
use Rattle.bson_program.proofs.Sequences.{ends, goes_on, passes, starts, stops_in}
use Rattle.bson_program.proofs.TextParts.{has_next, shorter}
use Rattle.bson_program.proofs.texts.convert_sequence.Goals as goal

pub loop-has_more-init : goal.loop-has_more-init
loop-has_more-init g c =
    starts c.args.sequence.separator c.args.invocation.now c.args.sequence.bytes.now (g.W.Write.contents c.args.writer.now)

pub returns-in_err-convert_text-clause-stops : goal.returns-in_err-convert_text-clause-stops
returns-in_err-convert_text-clause-stops g c =
    let p = err_from_is_err_and c.from_residual.result c.from_residual.ensures.1 in
    λ within. rw (p.1, p.2) (stops_in c.args.sequence.separator c.args.invocation.now c.in_err-convert_text.field-0.0 c.args.file_name.now
    c.args.sequence.content.now c.args.sequence.bytes.now c.loop-has_more.remaining_bytes.now c.split_text.result.0.now
    c.split_text.result.1.now c.args.sequence.end c.saturating_sub.result c.loop-has_more.has_more _ (g.W.Write.contents c.args.writer.now)
    (g.W.Write.contents c.loop-has_more.writer) (g.W.Write.contents c.convert_text.new.writer) c.loop-has_more-test.true
    c.split_text.ensures.texts c.split_text.ensures.separator (sym c.is_text.ensures ∙ c.if-is_text.true) c.loop-has_more.invariant
    c.saturating_sub.ensures c.in_err-convert_text.ensures.stops within)

pub loop-has_more-preserved-in_ok-convert_text : goal.loop-has_more-preserved-in_ok-convert_text
loop-has_more-preserved-in_ok-convert_text g c =
    goes_on c.args.sequence.separator c.args.invocation.now c.args.sequence.bytes.now (g.W.Write.contents c.args.writer.now)
    c.loop-has_more.remaining_bytes.now c.split_text.result.0.now c.split_text.result.1.now c.loop-has_more.has_more _
    (g.W.Write.contents c.loop-has_more.writer) (g.W.Write.contents c.convert_text.new.writer) c.loop-has_more-test.true
    c.split_text.ensures.texts c.split_text.ensures.separator (sym c.is_text.ensures ∙ c.if-is_text.true)
    c.in_ok-convert_text.ensures.done c.loop-has_more.invariant

pub loop-has_more-preserved : goal.loop-has_more-preserved
loop-has_more-preserved g c =
    passes c.args.sequence.separator c.args.invocation.now c.args.sequence.bytes.now (g.W.Write.contents c.args.writer.now)
    c.loop-has_more.remaining_bytes.now c.split_text.result.0.now c.split_text.result.1.now c.loop-has_more.has_more _
    (g.W.Write.contents c.loop-has_more.writer) c.loop-has_more-test.true c.split_text.ensures.texts c.split_text.ensures.separator
    (sym c.is_text.ensures ∙ c.if-is_text.false) c.loop-has_more.invariant

pub returns-clause-done : goal.returns-clause-done
returns-clause-done g c =
    ends c.args.sequence.separator c.args.invocation.now c.args.sequence.bytes.now (g.W.Write.contents c.args.writer.now)
    c.loop-has_more.remaining_bytes.now c.loop-has_more.has_more (g.W.Write.contents c.loop-has_more.writer)
    c.loop-has_more-test.false c.loop-has_more.invariant

pub loop-has_more-smaller : goal.loop-has_more-smaller
loop-has_more-smaller g c =
    let rest = c.loop-has_more.remaining_bytes.now in
    subst (λ b. length c.split_text.result.1.now + cond (has_next rest c.split_text.result.0.now) 1 0 < length rest + cond b 1 0)
    (sym c.loop-has_more-test.true) (shorter rest c.split_text.result.0.now c.split_text.result.1.now c.split_text.ensures.separator)

pub loop-has_more-smaller-in_ok-convert_text : goal.loop-has_more-smaller-in_ok-convert_text
loop-has_more-smaller-in_ok-convert_text g c =
    let rest = c.loop-has_more.remaining_bytes.now in
    subst (λ b. length c.split_text.result.1.now + cond (has_next rest c.split_text.result.0.now) 1 0 < length rest + cond b 1 0)
    (sym c.loop-has_more-test.true) (shorter rest c.split_text.result.0.now c.split_text.result.1.now c.split_text.ensures.separator)
