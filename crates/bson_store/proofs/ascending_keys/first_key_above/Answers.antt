use Rattle.std.proofs.Common.{◌≡◌, ◌+◌, ◌-◌, ◌/◌, ◌<◌, Some, true, false, length, slice_get, string_bytes, is_lt, refl}
use Rattle.std.proofs.Common.{sym, ap, ◌∙◌, arith}
use Rattle.bson_store.specs.AscendingOrder.{key_cmp}
use Rattle.bson_store.specs.Pairs.{keys}
use Rattle.bson_store.specs.KeyIndex.{stored_pairs}
use Rattle.bson_store.proofs.AscendingLaws.{above-from, none-above-to}
use Rattle.bson_store.proofs.Placed.{there, key-there}
use Rattle.bson_store.proofs.ascending_keys.first_key_above.Goals as goal

pub binary_search-preserved-then-is_lt : goal.binary_search-preserved-then-is_lt
binary_search-preserved-then-is_lt g c =
    let ps = stored_pairs c.args.pairs.now.items in
    let m = c.binary_search.low + (c.binary_search.high - c.binary_search.low) / 2 in
    let p = c.index.result.now in
    let within : m < length ps = omega (arith, c.binary_search-test.true, c.binary_search.invariant.1) in
    let key : slice_get (keys ps) m ≡ Some (string_bytes p.key) =
    sym (key-there ps m (string_bytes p.key, p.value)
    (there c.args.pairs.now.items ps m p refl within c.index.ensures)) in
    let above : is_lt (key_cmp c.args.key.now (string_bytes p.key)) ≡ true =
    ap (λ k. is_lt (key_cmp c.args.key.now k)) (sym c.as_str.ensures.value) ∙ ap is_lt (sym c.cmp.ensures)
    ∙ sym c.is_lt.ensures ∙ c.if-is_lt.true in (
      omega arith,
      omega (arith, within),
      c.binary_search.invariant.2,
      above-from c.args.key.now ps m (string_bytes p.key) c.requires key above,
    )

pub binary_search-preserved : goal.binary_search-preserved
binary_search-preserved g c =
    let ps = stored_pairs c.args.pairs.now.items in
    let m = c.binary_search.low + (c.binary_search.high - c.binary_search.low) / 2 in
    let p = c.index.result.now in
    let within : m < length ps = omega (arith, c.binary_search-test.true, c.binary_search.invariant.1) in
    let key : slice_get (keys ps) m ≡ Some (string_bytes p.key) =
    sym (key-there ps m (string_bytes p.key, p.value)
    (there c.args.pairs.now.items ps m p refl within c.index.ensures)) in
    let not_above : is_lt (key_cmp c.args.key.now (string_bytes p.key)) ≡ false =
    ap (λ k. is_lt (key_cmp c.args.key.now k)) (sym c.as_str.ensures.value) ∙ ap is_lt (sym c.cmp.ensures)
    ∙ sym c.is_lt.ensures ∙ c.if-is_lt.false in (
      omega (arith, c.binary_search-test.true),
      c.binary_search.invariant.1,
      none-above-to c.args.key.now ps m (string_bytes p.key) c.requires key not_above,
      c.binary_search.invariant.3,
    )
