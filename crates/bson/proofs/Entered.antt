-- Entries inserted in turn are the pairs that they represent, inserted in turn.
use Rattle.std.proofs.Common.{◌≡◌, ℕ, List, [], ◌∷◌, string_bytes, refl}
use Rattle.bson_store.specs.Pairs.{insert_pair, insert_pairs}
use Rattle.bson_store.specs.KeyIndex.{stored_pairs}
use Rattle.bson_store.specs.declared.small.Pair.{Pair}
use Rattle.bson.specs.InsertedPairs.{insert_entries}

pub as_pairs : {V : Type 0} (es : List (Pair V)) (ps : List (List ℕ × V)) → insert_entries es ps ≡ insert_pairs (stored_pairs es) ps
as_pairs [] ps = refl
as_pairs (e ∷ es) ps = as_pairs es (insert_pair (string_bytes e.key) e.value ps)
