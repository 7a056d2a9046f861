use Rattle.bson_bytes.specs.Reading.{reads_bytes}
use Rattle.bson_model.specs.declared.options.KeyOrder.TheVariants.{Ascending, AsGiven}
use Rattle.bson_codec.proofs.WrittenTexts.{reads_weaker, line_written}
use Rattle.bson_codec.proofs.document_line.document_text.Goals as goal

pub returns-in-Text-Ascending : goal.returns-in-Text-Ascending
returns-in-Text-Ascending c =
    let run = c.args.run in
    reads_weaker (λ stop. Unit {0}) _ _ c.sorted_text.result (reads_bytes run.depth c.args.bytes.now)
    (λ ps text (written, utf8). (
      line_written run.options run.line c.in-Text-Ascending.form c.form-form.result Ascending ps text.items
          c.in-Text-Ascending.is-0 c.form-form.ensures c.in-Text-Ascending.is-1 written,
      utf8,
    )) c.sorted_text.ensures

pub returns-in-Text-AsGiven : goal.returns-in-Text-AsGiven
returns-in-Text-AsGiven c =
    let run = c.args.run in
    reads_weaker (λ stop. Unit {0}) _ _ c.ordered_text.result (reads_bytes run.depth c.args.bytes.now)
    (λ ps text (written, utf8). (
      line_written run.options run.line c.in-Text-AsGiven.form c.form-form-in-Text-AsGiven.result AsGiven ps text.items
          c.in-Text-AsGiven.is-0 c.form-form-in-Text-AsGiven.ensures c.in-Text-AsGiven.is-1 written,
      utf8,
    )) c.ordered_text.ensures
