use Rattle.std.proofs.Common.{◌≡◌, ◌-◌, ◌++◌, ◌∷◌, [], suc, Less, length-take-le, take, string_bytes, refl, sym, ap}
use Rattle.std.proofs.Common.{subst, ◌∙◌, arith}
use Rattle.bson_store.specs.AscendingOrder.{key_cmp}
use Rattle.bson_store.specs.KeyIndex.{stored_pairs, HasAscendingKeys}
use Rattle.bson_store.proofs.AscendingLaws.{ascend-one, ascend-push, at-take, key-of}
use Rattle.bson_store.proofs.Least.{less_of}
use Rattle.bson_store.proofs.Placed.{there}
use Rattle.bson_store.proofs.ascending_keys.is_above_first_keys.Goals as goal

pub returns-then-count-eq0 : goal.returns-then-count-eq0
returns-then-count-eq0 g c = λ t v.
    let k = c.args.key.now in
    subst (λ n. HasAscendingKeys (take n (stored_pairs c.args.pairs.now.items) ++ (k, v) ∷ [])) (sym c.if-count-eq0.true)
    (ascend-one k v)

pub returns : goal.returns
returns g c = λ t v.
    let ps = stored_pairs c.args.pairs.now.items in
    let n = c.args.count - 1 in
    let next : c.args.count ≡ suc n = omega (arith, c.if-count-eq0.false) in
    let p = c.index.result.now in
    let at = there c.args.pairs.now.items ps n p refl (omega (arith, next, c.requires.within)) c.index.ensures in
    let below : key_cmp (string_bytes p.key) c.args.key.now ≡ Less =
    ap (λ k. key_cmp k c.args.key.now) (sym c.as_str.ensures.value) ∙ sym c.cmp.ensures
    ∙ less_of c.cmp.result (sym c.is_lt.ensures ∙ t) in
    ascend-push (take c.args.count ps) n (string_bytes p.key) c.args.key.now v c.requires.ascending
    (length-take-le c.args.count ps c.requires.within ∙ next)
    (key-of (take c.args.count ps) n (string_bytes p.key, p.value)
    (at-take ps c.args.count n (omega (arith, next)) ∙ at)) below
