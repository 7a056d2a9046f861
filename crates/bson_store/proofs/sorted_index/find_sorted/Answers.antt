use Rattle.std.proofs.Common.{◌≡◌, ◌+◌, ◌-◌, ◌<◌, Some, length, refl, sym, ap, subst, ◌∙◌, true≢false, arith}
use Rattle.std.specs.Str.{bytes_eq}
use Rattle.std.proofs.lemmas.Option.{slice_get_read}
use Rattle.bson_store.specs.AscendingKeys.{AllKeysAboveFrom, IsFirstKeyAbove}
use Rattle.bson_store.specs.Pairs.{get}
use Rattle.bson_store.specs.KeyIndex.{stored_pairs, key_positions}
use Rattle.bson_store.proofs.Adjacent.{distinct_from}
use Rattle.bson_store.proofs.AscendingLaws.{absent-first, absent-behind}
use Rattle.bson_store.proofs.Distinct.{get-at}
use Rattle.bson_store.proofs.Found.{get-absent}
use Rattle.bson_store.proofs.Placed.{own, same_bytes}
use Rattle.bson_store.proofs.SortedPlaces.{key_or, keyed-at, key_keyed-at, length-keyed}
use Rattle.bson_store.proofs.sorted_index.find_sorted.Goals as goal

pub returns-then-index_above-eq0 : goal.returns-then-index_above-eq0
returns-then-index_above-eq0 g c =
    let k = c.args.key.now in
    let es = key_positions c.args.positions.now.items (stored_pairs c.args.pairs.now.items) in
    sym (get-absent k es (absent-first k es
    (subst (AllKeysAboveFrom (Some k) es) c.if-index_above-eq0.true c.first_key_above-index_above.ensures.2))) ∙ c.requires.1 k

pub returns-then-eq : goal.returns-then-eq
returns-then-eq g c =
    let ps = stored_pairs c.args.pairs.now.items in
    let is = c.args.positions.now.items in
    let k = c.args.key.now in
    let n = c.first_key_above-index_above.result - 1 in
    let i = c.index-position.result.now in
    let within : n < length is =
    omega (arith, c.if-index_above-eq0.false, c.first_key_above-index_above.ensures.0, length-keyed is ps) in
    let same : k ≡ key_or ps i =
    same_bytes k (key_or ps i) (ap (bytes_eq k) (sym c.key_at.ensures) ∙ sym c.eq.ensures ∙ c.if-eq.true) in
    sym (get-at (key_positions is ps) n (key_or ps i, i) (distinct_from (key_positions is ps) c.requires.0)
    (keyed-at is ps n i (slice_get_read is (length is) n i refl within c.index-position.ensures)))
    ∙ ap (λ x. get x (key_positions is ps)) (sym same) ∙ c.requires.1 k

pub returns : goal.returns
returns g c =
    let ps = stored_pairs c.args.pairs.now.items in
    let is = c.args.positions.now.items in
    let k = c.args.key.now in
    let n = c.first_key_above-index_above.result - 1 in
    let i = c.index-position.result.now in
    let next : c.first_key_above-index_above.result ≡ n + 1 = omega (arith, c.if-index_above-eq0.false) in
    let within : n < length is = omega (arith, next, c.first_key_above-index_above.ensures.0, length-keyed is ps) in
    sym (get-absent k (key_positions is ps) (absent-behind k (key_positions is ps) n (key_or ps i) c.requires.0
    (subst (IsFirstKeyAbove (Some k) (key_positions is ps)) next c.first_key_above-index_above.ensures)
    (key_keyed-at is ps n i (slice_get_read is (length is) n i refl within c.index-position.ensures))
    (λ same. true≢false (sym (ap (bytes_eq k) (c.key_at.ensures ∙ sym same) ∙ own k) ∙ sym c.eq.ensures
    ∙ c.if-eq.false)))) ∙ c.requires.1 k
