use Rattle.std.proofs.Common.{string_bytes, refl}
use Rattle.bson.proofs.Places.{pair_from}
use Rattle.bson.proofs.document.Document.change_index.Goals as goal

pub returns-then-pair_index-len-clause-changed : goal.returns-then-pair_index-len-clause-changed
returns-then-pair_index-len-clause-changed g c =
    let p = c.pair_at_mut-value.result in (
      p.0,
      p.1,
      _,
      pair_from c.args.self.now.pairs c.args.pair_index (string_bytes p.0.now) p.1.now c.pair_at_mut-value.ensures.key
          c.pair_at_mut-value.ensures.value,
      c.change.ensures,
      refl,
    )
