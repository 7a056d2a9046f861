use Rattle.std.proofs.Common.{◌<◌, length, subst, sym, ap, arith}
use Rattle.std.proofs.lemmas.List.Edits.{length-remove}
use Rattle.std.proofs.lemmas.Option.{slice_get_within}
use Rattle.bson_store.specs.Pairs.{HasDistinctKeys}
use Rattle.bson_store.specs.KeyIndex.{stored_pairs, IsIndexOf, HasNeededIndex, HasAscendingKeys}
use Rattle.bson_store.proofs.Placed.{length-seen, distinct-remove}
use Rattle.bson_store.proofs.AscendingLaws.{ascend-remove}
use Rattle.bson_store.proofs.key_index.unindex_removed_key.Goals as goal

pub unindex_key-requires : goal.unindex_key-requires
unindex_key-requires g c =
    let ps = c.requires.0 in (
      ps,
      c.requires.1,
      c.requires.2,
      c.requires.3,
      c.requires.4.0,
      subst (λ x. IsIndexOf x ps) (sym c.deref_mut.ensures.value) (subst (HasNeededIndex ps) c.in-Some.is c.requires.4.1).1,
    )

pub returns-then-len-le-MAX_UNINDEXED : goal.returns-then-len-le-MAX_UNINDEXED
returns-then-len-le-MAX_UNINDEXED g c = (
  subst HasDistinctKeys (sym c.requires.3) (distinct-remove c.requires.0 c.args.removed_position c.requires.4.0),
  λ more. absurd (omega (
    arith,
    more,
    c.if-len-le-MAX_UNINDEXED.true,
    c.len.ensures,
    c.args.pairs.now.ok.0,
    length-seen c.args.pairs.now.items,
  )),
)

pub returns-in-Some : goal.returns-in-Some
returns-in-Some g c = (
  subst HasDistinctKeys (sym c.requires.3) (distinct-remove c.requires.0 c.args.removed_position c.requires.4.0),
  (
    omega (arith, c.if-len-le-MAX_UNINDEXED.false, c.len.ensures, c.args.pairs.now.ok.0, length-seen c.args.pairs.now.items),
    c.unindex_key.ensures,
  ),
)

pub returns-in-None : goal.returns-in-None
returns-in-None g c =
    let ps = c.requires.0 in
    let qs = stored_pairs c.args.pairs.now.items in
    let was : 16 < length ps → HasAscendingKeys ps = subst (HasNeededIndex ps) c.in-None.is c.requires.4.1 in
    let shorter =
    length-remove ps c.args.removed_position (slice_get_within ps c.args.removed_position (c.args.key.now, c.requires.1) c.requires.2) in
    let still : 16 < length qs → HasAscendingKeys qs =
    λ more. subst HasAscendingKeys (sym c.requires.3)
    (ascend-remove ps c.args.removed_position (was (omega (arith, more, shorter, ap length c.requires.3)))) in (
      subst HasDistinctKeys (sym c.requires.3) (distinct-remove ps c.args.removed_position c.requires.4.0),
      subst (HasNeededIndex qs) (sym c.in-None.is) still,
    )
