use Rattle.std.proofs.Common.{◌≡◌, ◌<◌, ◌++◌, IfOk, length, codes, string_bytes, append_assoc, arith, ap, ◌∙◌}
use Rattle.std.proofs.lemmas.Grind.{common_steps}
use Rattle.bson_tree.specs.Place.{path_text, path_of}
use Rattle.bson_run.specs.ErrorMessages.{escaped_message}
use Rattle.bson_run.proofs.Explaining.{placed_at, placed_bare}
use Rattle.bson_run.proofs.LinesLaws.{oks_with}
use Rattle.bson_run.proofs.explain.place_text.Goals as goal

pub returns-then-is_empty : goal.returns-then-is_empty
returns-then-is_empty c =
    let path = string_bytes c.in_ok-path.path in
    let reason = c.args.reason.now in
    let diagnostics_before : path ≡ escaped_message (path_text (path_of c.args.place.now)) =
    c.in_ok-path.ensures ∙ ap escaped_message (c.as_str.ensures.value ∙ c.in_ok-full_path.ensures) in
    let none : length path ≡ 0 = grind (arith, common_steps) in
    let said : IfOk c.format.result (λ s. string_bytes s ≡ codes " (" ++ reason ++ codes ")") =
    simp append_assoc c.format.ensures.ok in
    oks_with c.format.result said (λ s e. placed_bare c.args.place.now path reason (string_bytes s) diagnostics_before none e)

pub returns : goal.returns
returns c =
    let path = string_bytes c.in_ok-path.path in
    let reason = c.args.reason.now in
    let diagnostics_before : path ≡ escaped_message (path_text (path_of c.args.place.now)) =
    c.in_ok-path.ensures ∙ ap escaped_message (c.as_str.ensures.value ∙ c.in_ok-full_path.ensures) in
    let some : 0 < length path = grind (arith, common_steps) in
    let said : IfOk c.format-2.result (λ s. string_bytes s ≡ codes " at " ++ path ++ codes " (" ++ reason ++ codes ")") =
    simp append_assoc c.format-2.ensures.ok in
    oks_with c.format-2.result said (λ s e. placed_at c.args.place.now path reason (string_bytes s) diagnostics_before some e)
