use Rattle.std.proofs.Common.{◌≡◌, ◌<◌, ◌≤◌, length, string_bytes, refl, ap, ◌∙◌, arith}
use Rattle.std.proofs.lemmas.List.{take_all}
use Rattle.std.specs.BTreeMap.{get_by_text}
use Rattle.bson_store.specs.Pairs.{position_of}
use Rattle.bson_store.specs.KeyIndex.{stored_pairs}
use Rattle.bson_store.proofs.Placed.{there, length-seen, indexed-next, indexed-last}
use Rattle.bson_store.proofs.key_index.index_all_keys.Goals as goal

pub loop-pair_position-preserved : goal.loop-pair_position-preserved
loop-pair_position-preserved g c = λ k.
    let ps = c.args.pairs.now.items in
    let i = c.loop-pair_position.pair_position in
    let p = c.index.result.now in
    let within : i < length (stored_pairs ps) =
    omega (arith, c.loop-pair_position-test.true, c.len-pair_position-end.ensures, c.args.pairs.now.ok.0, length-seen ps) in
    c.in_ok-insert_position.ensures.ok k
    ∙ indexed-next (stored_pairs ps) i (string_bytes p.key, p.value)
    (get_by_text c.loop-pair_position.positions) c.requires.distinct within
    (there ps (stored_pairs ps) i p refl within c.index.ensures) c.loop-pair_position.invariant k

pub returns : goal.returns
returns g c = λ v.
    let ps = c.args.pairs.now.items in
    let past : length (stored_pairs ps) ≤ c.loop-pair_position.pair_position =
    omega (arith, c.loop-pair_position-test.false, c.len-pair_position-end.ensures, c.args.pairs.now.ok.0, length-seen ps) in
    let n : c.len.result ≡ length (stored_pairs ps) =
    omega (arith, c.len.ensures, c.args.pairs.now.ok.0, length-seen ps) in
    indexed-last (stored_pairs ps) (string_bytes c.args.key.now) v c.len.result (get_by_text c.loop-pair_position.positions)
    (get_by_text c.insert_position-2.new.positions) c.requires.absent n
    (λ k. c.loop-pair_position.invariant k ∙ ap (position_of k) (take_all c.loop-pair_position.pair_position (stored_pairs ps) past))
    c.in_ok-insert_position-2.ensures.ok
