use Rattle.std.proofs.Common.{◌<◌, length, string_bytes, take, refl, sym, ap, subst, ◌∙◌, ◌++◌, ◌∷◌, [], arith}
use Rattle.bson_store.specs.KeyIndex.{stored_pairs, HasAscendingKeys}
use Rattle.bson_store.proofs.AscendingLaws.{ascend_none}
use Rattle.bson_store.proofs.Distinct.{take-next}
use Rattle.bson_store.proofs.Placed.{there, length-seen}
use Rattle.bson_store.proofs.ascending_keys.has_ascending_keys.Goals as goal

pub pairs-init : goal.pairs-init
pairs-init g c = (omega arith, ascend_none)

pub pairs-preserved : goal.pairs-preserved
pairs-preserved g c =
    let xs = c.args.pairs.now.items in
    let ps = stored_pairs xs in
    let count = c.pairs.count in
    let p = c.index.result.now in
    let within : count < length ps =
    omega (arith, c.pairs-test.true, c.len.ensures, c.args.pairs.now.ok.0, length-seen xs) in
    let next = take-next ps count (string_bytes p.key, p.value) (there xs ps count p refl within c.index.ensures) in (
      omega (arith, within, length-seen xs),
      subst HasAscendingKeys (ap (λ k. take count ps ++ (k, p.value) ∷ []) c.as_str.ensures.value ∙ sym next)
          (c.is_above_first_keys.ensures c.if-is_above_first_keys.true p.value),
    )
