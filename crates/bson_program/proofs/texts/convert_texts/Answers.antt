use Rattle.std.proofs.Common.{false, true, subst, sym}
use Rattle.bson_program.specs.Texts.{FailsAtText}
use Rattle.bson_program.specs.SingleText.{IsTextRejected}
use Rattle.bson_program.proofs.Sequences.{accepted_stops, all_within, array_done, content_read, if_err, on_ok, one_text_done, reads_and_stops}
use Rattle.bson_program.proofs.Sequences.{sequence_done, sequence_stops, stops_whole}
use Rattle.bson_program.proofs.texts.convert_texts.Goals as goal

pub returns-then-invocation-clause-done : goal.returns-then-invocation-clause-done
returns-then-invocation-clause-done g c =
    let invocation = c.args.invocation.now in
    let file_name = c.args.file_name.now in
    let content = c.content_of-content.result.now in
    on_ok c.convert_array.result _ _ (array_done invocation file_name content c.in-Ok.bytes.items
    (g.R.Read.remaining c.args.reader.now) (g.R.Read.remaining c.read_whole.new.reader) (g.W.Write.contents c.args.writer.now)
    (g.W.Write.contents c.convert_array.new.writer) c.in-Ok.ensures.all
    (content_read invocation file_name content c.deref.result.now c.in-Ok.bytes.items c.content_of-content.ensures c.deref.ensures.value)
    c.if-invocation.true) c.convert_array.ensures.done

pub returns-then-invocation-clause-stops : goal.returns-then-invocation-clause-stops
returns-then-invocation-clause-stops g c =
    let invocation = c.args.invocation.now in
    let file_name = c.args.file_name.now in
    let content = c.content_of-content.result.now in
    if_err c.convert_array.result _ _ (λ stop h. reads_and_stops invocation stop file_name content c.in-Ok.bytes.items
    (g.R.Read.remaining c.args.reader.now) (g.R.Read.remaining c.read_whole.new.reader) (g.W.Write.contents c.args.writer.now)
    (g.W.Write.contents c.convert_array.new.writer) true c.in-Ok.ensures.all
    (content_read invocation file_name content c.deref.result.now c.in-Ok.bytes.items c.content_of-content.ensures c.deref.ensures.value)
    c.if-invocation.true h) c.convert_array.ensures.stops

pub returns-then-is_read_as_sequence-clause-done : goal.returns-then-is_read_as_sequence-clause-done
returns-then-is_read_as_sequence-clause-done g c =
    let invocation = c.args.invocation.now in
    let file_name = c.args.file_name.now in
    let content = c.content_of-content.result.now in
    let several = c.if-is_read_as_sequence.true in
    on_ok c.convert_sequence.result _ _ (sequence_done invocation file_name content c.in-Ok.bytes.items
    (g.R.Read.remaining c.args.reader.now) (g.R.Read.remaining c.read_whole.new.reader) (g.W.Write.contents c.args.writer.now)
    (g.W.Write.contents c.convert_sequence.new.writer) c.in-Err-accept_single_text.fault c.in-Err-accept_single_text.ensures.fault
    (c.is_read_as_sequence.ensures.not_json several) (c.is_read_as_sequence.ensures.several several) c.in-Ok.ensures.all
    (content_read invocation file_name content c.deref.result.now c.in-Ok.bytes.items c.content_of-content.ensures c.deref.ensures.value)
    c.if-invocation.false) c.convert_sequence.ensures.done

pub returns-then-is_read_as_sequence-clause-stops : goal.returns-then-is_read_as_sequence-clause-stops
returns-then-is_read_as_sequence-clause-stops g c =
    let invocation = c.args.invocation.now in
    let file_name = c.args.file_name.now in
    let content = c.content_of-content.result.now in
    let several = c.if-is_read_as_sequence.true in
    let output_before = g.W.Write.contents c.args.writer.now in
    let output_after = g.W.Write.contents c.convert_sequence.new.writer in
    if_err c.convert_sequence.result _ _ (λ stop h. reads_and_stops invocation stop file_name content c.in-Ok.bytes.items
    (g.R.Read.remaining c.args.reader.now) (g.R.Read.remaining c.read_whole.new.reader) output_before output_after false c.in-Ok.ensures.all
    (content_read invocation file_name content c.deref.result.now c.in-Ok.bytes.items c.content_of-content.ensures c.deref.ensures.value)
    c.if-invocation.false
    (sequence_stops invocation stop file_name content output_before output_after c.in-Err-accept_single_text.fault
    c.in-Err-accept_single_text.ensures.fault (c.is_read_as_sequence.ensures.not_json several)
    (c.is_read_as_sequence.ensures.several several) h)) (c.convert_sequence.ensures.stops (all_within content))

pub returns-in-Err-accept_single_text-clause-stops : goal.returns-in-Err-accept_single_text-clause-stops
returns-in-Err-accept_single_text-clause-stops g c =
    let invocation = c.args.invocation.now in
    let file_name = c.args.file_name.now in
    let content = c.content_of-content.result.now in
    let output_before = g.W.Write.contents c.args.writer.now in
    let stop = c.text_failure.result in
    let input_text = c.whole.result in
    reads_and_stops invocation stop file_name content c.in-Ok.bytes.items (g.R.Read.remaining c.args.reader.now)
    (g.R.Read.remaining c.read_whole.new.reader) output_before output_before false c.in-Ok.ensures.all
    (content_read invocation file_name c.content_of-content.result.now c.deref.result.now c.in-Ok.bytes.items
    c.content_of-content.ensures c.deref.ensures.value) c.if-invocation.false
    (stops_whole invocation stop file_name content output_before output_before (λ is. c.is_read_as_sequence.ensures.not_sequence c.if-is_read_as_sequence.false (c.text_failure.ensures.not_json is))
    (subst (λ t. FailsAtText invocation stop file_name content 0 t output_before output_before) c.whole.ensures.text
    (subst (λ n. FailsAtText invocation stop file_name content n input_text.text.now output_before output_before) c.whole.ensures.start
    (subst (λ t. FailsAtText invocation stop file_name t input_text.start input_text.text.now output_before output_before) c.whole.ensures.content
    (c.text_failure.ensures.stops output_before (subst (IsTextRejected invocation.options invocation.task c.in-Err-accept_single_text.fault) (sym c.whole.ensures.text)
    c.in-Err-accept_single_text.ensures.fault))))))

pub returns-clause-done : goal.returns-clause-done
returns-clause-done g c =
    let invocation = c.args.invocation.now in
    let file_name = c.args.file_name.now in
    on_ok c.write_accepted.result _ _ (one_text_done invocation file_name c.content_of-content.result.now c.in-Ok-accept_single_text.accepted
    (g.W.Write.contents c.args.writer.now) (g.W.Write.contents c.write_accepted.new.writer) c.in-Ok-accept_single_text.ensures.ok
    c.in-Ok-accept_single_text.ensures.utf8 (g.R.Read.remaining c.args.reader.now) (g.R.Read.remaining c.read_whole.new.reader)
    c.in-Ok.bytes.items c.in-Ok.ensures.all (content_read invocation file_name c.content_of-content.result.now c.deref.result.now c.in-Ok.bytes.items
    c.content_of-content.ensures c.deref.ensures.value) c.if-invocation.false)
    c.write_accepted.ensures.done

pub returns-clause-stops : goal.returns-clause-stops
returns-clause-stops g c =
    let invocation = c.args.invocation.now in
    let file_name = c.args.file_name.now in
    let content = c.content_of-content.result.now in
    let output_before = g.W.Write.contents c.args.writer.now in
    let output_after = g.W.Write.contents c.write_accepted.new.writer in
    if_err c.write_accepted.result _ _ (λ stop h. reads_and_stops invocation stop file_name content c.in-Ok.bytes.items
    (g.R.Read.remaining c.args.reader.now) (g.R.Read.remaining c.read_whole.new.reader) output_before output_after false c.in-Ok.ensures.all
    (content_read invocation file_name c.content_of-content.result.now c.deref.result.now c.in-Ok.bytes.items
    c.content_of-content.ensures c.deref.ensures.value) c.if-invocation.false
    (accepted_stops invocation file_name content c.in-Ok-accept_single_text.accepted output_before output_after c.in-Ok-accept_single_text.ensures.ok c.in-Ok-accept_single_text.ensures.utf8
    stop h)) c.write_accepted.ensures.stops
