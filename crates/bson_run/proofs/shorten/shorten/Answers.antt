use Rattle.std.proofs.Common.{◌≡◌, ◌++◌, [], Bool, append-nil, codes, cond, map-id, string_bytes, sym, ◌∙◌, ap}
use Rattle.std.specs.List.{flat_map}
use Rattle.std.specs.Option.{is_some}
use Rattle.std.proofs.lemmas.Iterator.{YieldsList-from_chars, YieldsList-from_take}
use Rattle.std.proofs.lemmas.Iterator.Consumers.{YieldsList-end, nth_from_yields_List}
use Rattle.bson_run.specs.ErrorMessages.{char_or_escape}
use Rattle.bson_run.proofs.Explaining.{cut_there}
use Rattle.bson_run.proofs.shorten.shorten.Goals as goal
use Rattle.bson_run.proofs.shorten.shorten.Goals.{then-is_some+in_ok-push_str, else-is_some}

pub returns : goal.returns
returns c =
    let full_message = c.args.full_message.now in
    let road = YieldsList-from_take c.args.max_chars (YieldsList-from_chars full_message c.utf8.full_message cc) cc in
    let end = YieldsList-end road c.loop-character.yielded _ c.loop-character.yielded_by _ _ c.in-None.is c.next.ensures.steps in
    let front = c.loop-character.invariant ∙ ap (λ ys. flat_map (char_or_escape c.args.escapes) ys) (sym (map-id c.loop-character.yielded) ∙ end.0) in
    let item = nth_from_yields_List c.nth.result c.nth.new.self c.args.max_chars c.nth.ensures.ran
    (YieldsList-from_chars full_message c.utf8.full_message cc) in
    let tail = λ (b : Bool). string_bytes c.loop-character.shortened ++ cond b (codes "..") [] in
    let more : string_bytes c.if-is_some.shortened ≡ tail (is_some c.nth.result) =
    elim c.if-is_some.branch [
      | then-is_some+in_ok-push_str w ↦ ap string_bytes w.shortened-is ∙ w.in_ok-push_str.ensures.bytes
          ∙ ap tail (sym w.if-is_some.true ∙ c.is_some.ensures)
      | else-is_some w ↦ ap string_bytes w.shortened-is ∙ sym (append-nil (string_bytes c.loop-character.shortened))
          ∙ ap tail (sym w.if-is_some.false ∙ c.is_some.ensures)
    ] in
    cut_there c.args.max_chars (char_or_escape c.args.escapes) full_message _ _ c.nth.result front item more
