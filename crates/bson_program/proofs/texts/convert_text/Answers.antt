use Rattle.bson_program.proofs.Sequences.{on_ok}
use Rattle.bson_program.proofs.texts.convert_text.Goals as goal

pub returns-in-Ok-clause-done : goal.returns-in-Ok-clause-done
returns-in-Ok-clause-done g c =
    on_ok c.write_accepted.result _ _
    (λ w. record {
      output = w.output;
      text_output = record {
        writes_output = c.in-Ok.ensures.ok.each_output w.output w.outputs;
        utf8 = λ t. w.utf8 (c.in-Ok.ensures.utf8 t);
      };
      written = w.written;
    })
    c.write_accepted.ensures.done
