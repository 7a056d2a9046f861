use Rattle.std.proofs.Common.{◌<◌, length, take, string_bytes, refl, sym, ap, ◌∙◌, arith}
use Rattle.std.specs.Str.{bytes_eq}
use Rattle.bson_store.specs.Pairs.{position_of}
use Rattle.bson_store.specs.KeyIndex.{stored_pairs}
use Rattle.bson_store.proofs.Distinct.{take-next}
use Rattle.bson_store.proofs.Placed.{there, length-seen, absent-next, found-first}
use Rattle.bson_store.proofs.key_index.find_by_scan.Goals as goal

pub returns-then-eq : goal.returns-then-eq
returns-then-eq g c =
    let ps = c.args.pairs.now.items in
    let p = c.index.result.now in
    let within : c.loop-pair_position.pair_position < length (stored_pairs ps) =
    omega (arith, c.loop-pair_position-test.true, c.len-pair_position-end.ensures, c.args.pairs.now.ok.0, length-seen ps) in
    sym (found-first c.args.key.now (stored_pairs ps) c.loop-pair_position.pair_position (string_bytes p.key, p.value) c.loop-pair_position.invariant
    (there ps (stored_pairs ps) c.loop-pair_position.pair_position p refl within c.index.ensures)
    (ap (bytes_eq c.args.key.now) (sym c.as_str.ensures.value) ∙ sym c.eq.ensures ∙ c.if-eq.true))

pub loop-pair_position-preserved : goal.loop-pair_position-preserved
loop-pair_position-preserved g c =
    let ps = c.args.pairs.now.items in
    let p = c.index.result.now in
    let within : c.loop-pair_position.pair_position < length (stored_pairs ps) =
    omega (arith, c.loop-pair_position-test.true, c.len-pair_position-end.ensures, c.args.pairs.now.ok.0, length-seen ps) in
    ap (position_of c.args.key.now)
    (take-next (stored_pairs ps) c.loop-pair_position.pair_position (string_bytes p.key, p.value)
    (there ps (stored_pairs ps) c.loop-pair_position.pair_position p refl within c.index.ensures))
    ∙ absent-next c.args.key.now (take c.loop-pair_position.pair_position (stored_pairs ps)) (string_bytes p.key, p.value) c.loop-pair_position.invariant
    (ap (bytes_eq c.args.key.now) (sym c.as_str.ensures.value) ∙ sym c.eq.ensures ∙ c.if-eq.false)
