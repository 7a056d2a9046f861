use Rattle.std.proofs.Common.{◌≡◌, ◌∷◌, length, sym, ap, ◌∙◌, arith}
use Rattle.std.specs.Vec.Iter.{into_iter_items}
use Rattle.bson_store.specs.Pairs.{insert_pairs}
use Rattle.bson_store.specs.KeyIndex.{stored_pairs}
use Rattle.bson_store.proofs.small.from_entries.insert_each.Goals as goal

pub pairs-preserved : goal.pairs-preserved
pairs-preserved g c =
    let at = c.pairs in
    let later = into_iter_items c.next.new.self in
    let steps : into_iter_items at.key-iterator ≡ c.in-Some.field-0 ∷ later = c.in-Some.ensures.steps.0 in
    let shorter = ap length steps in
    record {
      remaining_pairs = omega (arith, shorter, at.invariant.remaining_pairs, c.in-Some.ensures.steps.1);
      all = ap (insert_pairs (stored_pairs later)) c.in-Ok.ensures.put
          ∙ ap (λ es. insert_pairs (stored_pairs es) at.store) (sym steps) ∙ at.invariant.all;
    }
