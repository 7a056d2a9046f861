use Rattle.std.proofs.Common.{◌≡◌, ◌++◌, ◌∷◌, [], length, subst, arith}
use Rattle.std.proofs.lemmas.List.{take_all}
use Rattle.bson_store.specs.KeyIndex.{stored_pairs, HasAscendingKeys}
use Rattle.bson_store.proofs.Placed.{length-seen}
use Rattle.bson_store.proofs.ascending_keys.needs_no_index.Goals as goal

pub returns-clause-yes : goal.returns-clause-yes
returns-clause-yes g c = λ t v more.
    let ps = stored_pairs c.args.pairs.now.items in
    let n : c.len-3.result ≡ length ps =
    omega (arith, c.len-3.ensures, c.args.pairs.now.ok.0, length-seen c.args.pairs.now.items) in
    subst (λ qs. HasAscendingKeys (qs ++ (c.args.key.now, v) ∷ [])) (take_all c.len-3.result ps (omega (arith, n)))
    (c.is_above_first_keys.ensures t v)
