use Rattle.std.proofs.Common.{◌≡◌, ◌+◌, ◌-◌, ◌/◌, ◌<◌, true, false, length, is_lt, refl, sym, ap, ◌∙◌, arith}
use Rattle.std.proofs.lemmas.Option.{slice_get_read}
use Rattle.bson_store.specs.AscendingOrder.{key_cmp}
use Rattle.bson_store.specs.KeyIndex.{stored_pairs, key_positions}
use Rattle.bson_store.proofs.AscendingLaws.{above-from, none-above-to}
use Rattle.bson_store.proofs.SortedPlaces.{key_or, key_keyed-at, length-keyed}
use Rattle.bson_store.proofs.sorted_index.first_key_above.Goals as goal

pub binary_search-preserved-then-is_lt : goal.binary_search-preserved-then-is_lt
binary_search-preserved-then-is_lt g c =
    let ps = stored_pairs c.args.pairs.now.items in
    let is = c.args.positions.now.items in
    let m = c.binary_search.low + (c.binary_search.high - c.binary_search.low) / 2 in
    let i = c.index.result.now in
    let within : m < length is = omega (arith, c.binary_search-test.true, c.binary_search.invariant.1, length-keyed is ps) in
    let key = key_keyed-at is ps m i (slice_get_read is (length is) m i refl within c.index.ensures) in
    let above : is_lt (key_cmp c.args.key.now (key_or ps i)) ≡ true =
    ap (λ k. is_lt (key_cmp c.args.key.now k)) (sym c.key_at.ensures) ∙ ap is_lt (sym c.cmp.ensures)
    ∙ sym c.is_lt.ensures ∙ c.if-is_lt.true in (
      omega arith,
      omega (arith, within, length-keyed is ps),
      c.binary_search.invariant.2,
      above-from c.args.key.now (key_positions is ps) m (key_or ps i) c.requires key above,
    )

pub binary_search-preserved : goal.binary_search-preserved
binary_search-preserved g c =
    let ps = stored_pairs c.args.pairs.now.items in
    let is = c.args.positions.now.items in
    let m = c.binary_search.low + (c.binary_search.high - c.binary_search.low) / 2 in
    let i = c.index.result.now in
    let within : m < length is = omega (arith, c.binary_search-test.true, c.binary_search.invariant.1, length-keyed is ps) in
    let key = key_keyed-at is ps m i (slice_get_read is (length is) m i refl within c.index.ensures) in
    let not_above : is_lt (key_cmp c.args.key.now (key_or ps i)) ≡ false =
    ap (λ k. is_lt (key_cmp c.args.key.now k)) (sym c.key_at.ensures) ∙ ap is_lt (sym c.cmp.ensures)
    ∙ sym c.is_lt.ensures ∙ c.if-is_lt.false in (
      omega (arith, c.binary_search-test.true),
      c.binary_search.invariant.1,
      none-above-to c.args.key.now (key_positions is ps) m (key_or ps i) c.requires key not_above,
      c.binary_search.invariant.3,
    )
