use Rattle.std.proofs.Common.{map-id, sym, ◌∙◌, ap}
use Rattle.std.specs.List.{flat_map}
use Rattle.std.proofs.lemmas.Iterator.{YieldsList-from_chars}
use Rattle.std.proofs.lemmas.Iterator.Consumers.{YieldsList-end}
use Rattle.bson_program.specs.Messages.{printable}
use Rattle.bson_program.proofs.messages.escape_name.Goals as goal

pub returns : goal.returns
returns c =
    let road = YieldsList-from_chars c.args.unescaped.now c.utf8.unescaped cc in
    let end = YieldsList-end road c.loop-character.yielded _ c.loop-character.yielded_by _ _ c.in-None.is c.next.ensures.steps in
    c.loop-character.invariant ∙ ap (λ ys. flat_map printable ys) (sym (map-id c.loop-character.yielded) ∙ end.0)
