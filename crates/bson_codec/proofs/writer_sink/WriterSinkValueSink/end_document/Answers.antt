use Rattle.std.proofs.Common.{◌∙◌, sym, subst, arith}
use Rattle.std.proofs.lemmas.Grind.{common_steps}
use Rattle.bson_text.specs.TraversalResults.{keys_of}
use Rattle.bson_codec.proofs.Once.{each_once}
use Rattle.bson_codec.proofs.WriterSinks.{own_keys, sound_document}
use Rattle.bson_codec.proofs.writer_sink.WriterSinkValueSink.end_document.Goals as goal

pub returns-clause-outcome : goal.returns-clause-outcome
returns-clause-outcome g c = λ start ps (begun, opened, written, at, keys, sound).
    let own = own_keys start.keys.items c.as_mut_slice.result.now (keys_of ps) c.args.list.first_key
    (keys.0, c.as_mut_slice.ensures.value ∙ keys.1, keys.2) at in (
      subst (λ qs. g.W.ValueWriter.wrote_document start.writer qs c.end_document.new.self) (sym (each_once ps))
          (c.in-Ok.ensures.written start.writer begun ps opened written (sym own)),
      (let is = keys.1 in grind (arith, common_steps, at, is, c.truncate.ensures.items, c.as_mut_slice.ensures.value)),
      sound_document ps sound,
    )
