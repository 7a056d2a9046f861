use Rattle.std.proofs.Common.{map-id, sym, ◌∙◌, ap}
use Rattle.std.specs.List.{flat_map}
use Rattle.std.proofs.lemmas.Iterator.{YieldsList-from_chars}
use Rattle.std.proofs.lemmas.Iterator.Consumers.{YieldsList-end}
use Rattle.bson_run.specs.Diagnostic.{pointer_char}
use Rattle.bson_run.proofs.diagnostic.escape_key.Goals as goal

pub returns : goal.returns
returns c =
    let road = YieldsList-from_chars c.args.key.now c.utf8.key cc in
    let end = YieldsList-end road c.loop-character.yielded _ c.loop-character.yielded_by _ _ c.in-None.is c.next.ensures.steps in
    c.loop-character.invariant ∙ ap (λ ys. flat_map pointer_char ys) (sym (map-id c.loop-character.yielded) ∙ end.0)
