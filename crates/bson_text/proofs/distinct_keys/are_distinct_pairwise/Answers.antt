use Rattle.std.proofs.Common.{◌<◌, [], refl, arith, below_more}
use Rattle.json.proofs.Unique.Keys.{Key, DifferAt, AreDistinct-from_places, DifferAt-from_contains}
use Rattle.json.proofs.Unique.Keys.{repeated_from_contains}
use Rattle.bson_text.proofs.distinct_keys.are_distinct_pairwise.Goals as goal

abbrev none : Key
none = record { ref_ptr = (0, 0); now = [] }

pub returns-then-contains : goal.returns-then-contains
returns-then-contains c = (
  λ never. absurd (cc),
  λ apart. absurd (repeated_from_contains c.args.keys.now c.loop-key_index.key_index none c.loop-key_index-test.true
      c.if-contains.ensures.cases apart),
)

pub loop-key_index-preserved : goal.loop-key_index-preserved
loop-key_index-preserved c i j less upto =
    let ks = c.args.keys.now in
    let key_index = c.loop-key_index.key_index in
    let last : i < key_index → DifferAt ks i key_index =
    λ before. DifferAt-from_contains ks key_index none c.loop-key_index-test.true c.if-contains.ensures.cases i before in
    below_more (λ n. i < n → DifferAt ks i n) key_index (λ n below before. c.loop-key_index.invariant i n before below) last j upto less

pub returns : goal.returns
returns c = (
  λ yes. AreDistinct-from_places c.args.keys.now (λ i j less within. c.loop-key_index.invariant i j less (omega arith)),
  λ apart. refl,
)
