use Rattle.std.proofs.Common.{inl}
use Rattle.std.proofs.lemmas.Result.{IfErr-weaker, on_ok_weaker}
use Rattle.bson_convert.specs.Convert.{IsAccepted, IsRejectedIn}
use Rattle.bson_convert.specs.declared.error.Error.{Error}
use Rattle.vbson.proofs.Preprocessed.{means_under, read_by, under}
use Rattle.vbson.specs.Explain.{IsRejectedUnder}
use Rattle.vbson.proofs.explain.check_under.Goals as goal

pub returns : goal.returns
returns c =
    let options = c.args.options in
    let o = c.options_of.result in
    let text = c.args.text.now in
    let read = c.text_to_read.result.now in
    let law = c.reading_in_each_mode.ensures in
    let is = read_by options text o read c.preprocessing_of.result c.in_ok-new_text.new_text c.options_of.ensures c.preprocessing_of.ensures
    c.in_ok-new_text.ensures.ok c.text_to_read.ensures in
    record {
      accepted = on_ok_weaker c.check.result (λ (accepted : IsAccepted o read).
          let (tree, value, is_text, means) = accepted in (
            value,
            means_under options text o read value is (record {
              tree = tree;
              text = is_text;
              meaning = record {
                means = means;
                one = λ other m. law.at_most_one_meaning o.doubles tree other value m means;
                read_form = law.read_form o.doubles tree value means;
              };
            }),
          )) c.check.ensures.ok;
      rejected = IfErr-weaker c.check.result (λ (fault : Error). IsRejectedIn o fault read)
          (λ (fault : Error). IsRejectedUnder options fault text)
          (λ fault h. inl (under (λ p. IsRejectedIn p fault) options text o read is h)) c.check.ensures.fault;
    }
