use Rattle.std.proofs.Common.{◌≡◌, ◌+◌, ◌-◌, ◌<◌, Some, length, string_bytes, refl, sym, ap, subst, ◌∙◌, true≢false}
use Rattle.std.proofs.Common.{arith}
use Rattle.std.specs.Str.{bytes_eq}
use Rattle.bson_store.specs.AscendingKeys.{AllKeysAboveFrom, IsFirstKeyAbove}
use Rattle.bson_store.specs.Pairs.{position_of}
use Rattle.bson_store.specs.KeyIndex.{stored_pairs}
use Rattle.bson_store.proofs.AscendingLaws.{absent-first, absent-behind, key-of}
use Rattle.bson_store.proofs.Placed.{there, place-at, own, same_bytes}
use Rattle.bson_store.proofs.ascending_keys.find_ascending.Goals as goal

pub returns-then-position_above-eq0 : goal.returns-then-position_above-eq0
returns-then-position_above-eq0 g c =
    let ps = stored_pairs c.args.pairs.now.items in
    sym (absent-first c.args.key.now ps
    (subst (AllKeysAboveFrom (Some c.args.key.now) ps) c.if-position_above-eq0.true c.first_key_above-position_above.ensures.2))

pub returns-then-eq : goal.returns-then-eq
returns-then-eq g c =
    let ps = stored_pairs c.args.pairs.now.items in
    let n = c.first_key_above-position_above.result - 1 in
    let p = c.index.result.now in
    let within : n < length ps = omega (arith, c.if-position_above-eq0.false, c.first_key_above-position_above.ensures.0) in
    let same : c.args.key.now ≡ string_bytes p.key =
    same_bytes c.args.key.now (string_bytes p.key)
    (ap (bytes_eq c.args.key.now) (sym c.as_str.ensures.value) ∙ sym c.eq.ensures ∙ c.if-eq.true) in
    sym (ap (λ k. position_of k ps) same
    ∙ place-at ps n (string_bytes p.key, p.value) c.requires.distinct
    (there c.args.pairs.now.items ps n p refl within c.index.ensures))

pub returns : goal.returns
returns g c =
    let ps = stored_pairs c.args.pairs.now.items in
    let k = c.args.key.now in
    let n = c.first_key_above-position_above.result - 1 in
    let p = c.index.result.now in
    let next : c.first_key_above-position_above.result ≡ n + 1 = omega (arith, c.if-position_above-eq0.false) in
    let within : n < length ps = omega (arith, next, c.first_key_above-position_above.ensures.0) in
    sym (absent-behind k ps n (string_bytes p.key) c.requires.ascending
    (subst (IsFirstKeyAbove (Some k) ps) next c.first_key_above-position_above.ensures)
    (key-of ps n (string_bytes p.key, p.value) (there c.args.pairs.now.items ps n p refl within c.index.ensures))
    (λ same. true≢false (sym (ap (bytes_eq k) (c.as_str.ensures.value ∙ sym same) ∙ own k) ∙ sym c.eq.ensures
    ∙ c.if-eq.false)))
