use Rattle.std.proofs.Common.{◌≡◌, ap, ◌∙◌, arith, take, drop, ◌++◌, IfOk, string_bytes}
use Rattle.std.proofs.Common.{append_assoc}
use Rattle.std.proofs.lemmas.Grind.{common_steps}
use Rattle.std.proofs.lemmas.Result.{IfOk-weaker}
use Rattle.bson_v1.specs.Upgraded.{inserted}
use Rattle.bson_v1.proofs.date.inserted.Goals as goal

pub returns : goal.returns
returns c =
    let text = c.args.text.now in
    let part = c.args.part.now in
    let front : c.range-before.result.now ≡ take c.args.place text = grind (arith, common_steps) in
    let back : c.range_from-after.result.now ≡ drop c.args.place text = grind (arith, common_steps) in
    let said : IfOk c.format.result (λ s. string_bytes s ≡ c.range-before.result.now ++ part
    ++ c.range_from-after.result.now) = simp append_assoc c.format.ensures.ok in
    IfOk-weaker c.format.result _ (λ s. string_bytes s ≡ inserted text c.args.place part)
    (λ s is. is ∙ ap (λ h. h ++ part ++ c.range_from-after.result.now) front
    ∙ ap (λ m. take c.args.place text ++ part ++ m) back) said
