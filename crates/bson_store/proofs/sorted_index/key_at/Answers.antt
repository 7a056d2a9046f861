use Rattle.std.proofs.Common.{slice_get, length, refl, sym, ap, ◌∙◌}
use Rattle.std.proofs.lemmas.Option.{slice_get_read}
use Rattle.bson_store.proofs.SortedPlaces.{key_there}
use Rattle.bson_store.proofs.sorted_index.key_at.Goals as goal

pub returns-in-Some : goal.returns-in-Some
returns-in-Some g c =
    let xs = c.deref.result.now in
    let found = c.in-Some.ensures.lookup in
    c.as_str.ensures.value
    ∙ key_there c.args.pairs.now.items c.args.position c.in-Some.pair.now
    (ap (λ ps. slice_get ps c.args.position) (sym c.deref.ensures.value)
    ∙ slice_get_read xs (length xs) c.args.position c.in-Some.pair.now refl found.3.0 found.1)
