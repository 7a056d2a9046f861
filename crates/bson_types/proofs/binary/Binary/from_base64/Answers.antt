use Rattle.std.proofs.Common.{arith, rules, ◌≡◌, Ok, Err, inr, take, sym, ap, ◌∙◌}
use Rattle.std.proofs.lemmas.Grind.{common_steps}
use Rattle.base64.specs.Engines.{standard}
use Rattle.base64.specs.GeneralPurpose.{decode_of}
use Rattle.bson_types.proofs.Base64Laws.{base64_from, base64_to}
use Rattle.bson_types.proofs.binary.Binary.from_base64.Goals as goal

pub returns-in-Ok-clause-ok : goal.returns-in-Ok-clause-ok
returns-in-Ok-clause-ok c =
    let chars = rw c.as_bytes-input.ensures.value at c.bytes_are_below_256.ensures in
    let kept : take c.in-Ok.len c.decode_slice_unchecked.new.output ≡ c.truncate.new.self.items =
    grind (arith, common_steps) in
    let decoded : decode_of standard c.args.text.now ≡ Ok (take c.in-Ok.len c.decode_slice_unchecked.new.output) =
    rw c.as_bytes-input.ensures.value at c.in-Ok.ensures.ok.0 in
    base64_from c.args.text.now c.truncate.new.self.items chars (decoded ∙ ap Ok kept)

pub returns-in-Err-clause-err : goal.returns-in-Err-clause-err
returns-in-Err-clause-err c =
    let refused : decode_of standard c.args.text.now ≡ Err c.in-Err.field-0 = search rules in
    inr (tt, λ bytes is. cc (sym (base64_to c.args.text.now bytes is) ∙ refused))
