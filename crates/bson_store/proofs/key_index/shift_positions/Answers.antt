use Rattle.std.proofs.Common.{◌≡◌, ◌<◌, ◌≤◌, ℕ, Option, Some, None, option_map, length, string_bytes, refl, sym, ap}
use Rattle.std.proofs.Common.{◌∙◌, arith, rules, cond, add-one, IsSome}
use Rattle.std.specs.Option.{option_copied_mut}
use Rattle.std.specs.Str.{bytes_eq}
use Rattle.std.proofs.lemmas.Map.Text.{btree_map_updates_text}
use Rattle.bson_store.specs.Pairs.{position_of}
use Rattle.bson_store.specs.KeyIndex.{stored_pairs}
use Rattle.bson_store.specs.PositionsAfterRemoval.{position_before_removal}
use Rattle.bson_store.proofs.Placed.{there, length-seen, lower-one, lowered_all, place-at}
use Rattle.bson_store.proofs.key_index.shift_positions.Goals as goal
use Rattle.bson_store.proofs.key_index.shift_positions.Goals.{in-Some, in-None}

some_there : (r : Option ℕ) (j : ℕ) → r ≡ Some j → IsSome r
some_there None j e = cc
some_there (Some n) j e = search rules

none_there : (r : Option ℕ) (j : ℕ) → r ≡ Some j → r ≡ None → ⊥
none_there r j e f = cc

pub loop-pair_position-preserved : goal.loop-pair_position-preserved
loop-pair_position-preserved g c =
    let ps = c.args.pairs.now.items in
    let i = c.loop-pair_position.pair_position in
    let p = c.index.result.now in
    let within : i < length (stored_pairs ps) =
    omega (arith, c.loop-pair_position-test.true, c.len-pair_position-end.ensures, c.args.pairs.now.ok.0, length-seen ps) in
    let at = there ps (stored_pairs ps) i p refl within c.index.ensures in
    let q = c.as_str.result.now in
    let own = c.loop-pair_position.invariant q
    ∙ ap (λ k. option_map (position_before_removal i) (position_of k (stored_pairs ps))) c.as_str.ensures.value
    ∙ ap (option_map (position_before_removal i))
    (place-at (stored_pairs ps) i (string_bytes p.key, p.value) c.requires.distinct at) in
    elim c.match-get_mut.branch [
      | in-Some w ↦ rw w.positions-is (λ k.
          btree_map_updates_text q c.loop-pair_position.positions (c.get_mut.follows.lender i) (Some i)
          ((c.get_mut.follows.holds i).3 (some_there _ _ own)) k
          ∙ (λ j. cond (bytes_eq (c.as_str.ensures.value j) k) (Some i) (c.loop-pair_position.invariant k j))
          ∙ lower-one (stored_pairs ps) i (string_bytes p.key, p.value) c.requires.distinct at k
          ∙ ap (λ n. option_map (position_before_removal n) (position_of k (stored_pairs ps))) (sym (add-one i)))
      | in-None w ↦ absurd (none_there _ _ own
          (sym (ap option_copied_mut (sym w.in-None.is) ∙ c.get_mut.ensures.value)))
    ]

pub returns : goal.returns
returns g c = λ k.
    let ps = c.args.pairs.now.items in
    let past : length (stored_pairs ps) ≤ c.loop-pair_position.pair_position =
    omega (arith, c.loop-pair_position-test.false, c.len-pair_position-end.ensures, c.args.pairs.now.ok.0, length-seen ps) in
    c.loop-pair_position.invariant k ∙ lowered_all (stored_pairs ps) c.loop-pair_position.pair_position past k
