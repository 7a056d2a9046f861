use Rattle.std.proofs.Common.{sym, ◌∙◌}
use Rattle.bson_program.proofs.Arrays.{element_stops, elements_done, nothing_done, within_array}
use Rattle.bson_program.proofs.Sequences.{if_err, on_ok}
use Rattle.bson_program.proofs.texts.convert_array.Goals as goal

pub returns-then-has_non_whitespace-clause-done : goal.returns-then-has_non_whitespace-clause-done
returns-then-has_non_whitespace-clause-done g c =
    let found = c.in-Some.ensures.some in
    on_ok c.convert_sequence.result _ _ (elements_done c.args.content.now c.in-Some.bytes.now found.0 c.in-Some.end found.1 found.2
    c.args.invocation.now (g.W.Write.contents c.args.writer.now) (g.W.Write.contents c.convert_sequence.new.writer)
    (sym c.has_non_whitespace.ensures ∙ c.if-has_non_whitespace.true)) c.convert_sequence.ensures.done

pub returns-then-has_non_whitespace-clause-stops : goal.returns-then-has_non_whitespace-clause-stops
returns-then-has_non_whitespace-clause-stops g c =
    let found = c.in-Some.ensures.some in
    if_err c.convert_sequence.result _ _ (λ stop h. element_stops c.args.content.now c.in-Some.bytes.now found.0 c.in-Some.end found.1
    found.2 c.args.invocation.now stop c.args.file_name.now (g.W.Write.contents c.args.writer.now)
    (g.W.Write.contents c.convert_sequence.new.writer) (sym c.has_non_whitespace.ensures ∙ c.if-has_non_whitespace.true) h)
    (c.convert_sequence.ensures.stops (within_array c.args.content.now c.in-Some.bytes.now found.0 c.in-Some.end found.1 found.2))

pub returns-clause-done : goal.returns-clause-done
returns-clause-done g c =
    let found = c.in-Some.ensures.some in
    nothing_done c.args.content.now c.in-Some.bytes.now found.0 c.in-Some.end found.1 found.2 c.args.invocation.now
    (g.W.Write.contents c.args.writer.now) (sym c.has_non_whitespace.ensures ∙ c.if-has_non_whitespace.false)
