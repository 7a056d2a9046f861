use Rattle.std.proofs.Common.{◌≡◌, length, string_bytes, subst, arith}
use Rattle.std.specs.BTreeMap.{get_by_text}
use Rattle.bson_store.specs.KeyIndex.{stored_pairs, IsIndexOf}
use Rattle.bson_store.proofs.Placed.{length-seen, indexed-last, on_ok}
use Rattle.bson_store.proofs.key_index.index_next_key.Goals as goal

pub returns-in-Map-clause-ok : goal.returns-in-Map-clause-ok
returns-in-Map-clause-ok g c =
    let ps = stored_pairs c.args.pairs.now.items in
    let old = subst (λ x. IsIndexOf x ps) c.in-Map.is c.requires.indexes in
    let n : c.len.result ≡ length ps =
    omega (arith, c.len.ensures, c.args.pairs.now.ok.0, length-seen c.args.pairs.now.items) in
    on_ok c.insert_position.result
    (λ made v. indexed-last ps (string_bytes c.args.key.now) v c.len.result (get_by_text c.in-Map.map)
    (get_by_text c.insert_position.new.positions) c.requires.absent n old made)
    c.insert_position.ensures.ok
