use Rattle.std.proofs.Common.{arith, refl, sym, subst}
use Rattle.json.specs.Strict.{AreDistinct}
use Rattle.bson_text.specs.TextOutput.{HasPairTokens}
use Rattle.bson_text.proofs.Once.{once_is}
use Rattle.bson_text.proofs.Sending.{document_sent, with_out}
use Rattle.bson_text.proofs.text_writer.TextWriterValueWriter.end_document.Goals as goal

pub returns-clause-written : goal.returns-clause-written
returns-clause-written c = λ start mid ps mark written keys.
    let apart = subst AreDistinct (sym keys) (c.are_distinct.ensures.0 (grind arith)) in
    let new = with_out c.args.self.now c.end_object.new.self in
    subst (λ qs. HasPairTokens start qs new) (sym (once_is ps apart)) (document_sent ps start mid c.args.self.now new mark written
    (refl, refl, c.end_object.ensures.room.0, c.in_ok-end_object.ensures.ok))
