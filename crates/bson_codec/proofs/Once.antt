-- Pairs inserted in turn, as bytes are read and as a text is.
use Rattle.std.proofs.Common.{◌≡◌, List, ℕ, bytes_eq, cond, refl, ap, ◌∙◌}
use Rattle.bson_model.specs.Value.{Value, Pairs, no_pairs, pair}
use Rattle.json.specs.Strict.{AreDistinct}
use Rattle.bson_text.specs.TraversalResults.{keys_of, with_pair_set, with_pairs_set, each_key_once}
use Rattle.bson_text.proofs.Offered.{once_is}
use Rattle.bson_bytes.specs.Grammar.{insert_value, deduplicated_onto, deduplicated}

inserted : (k : List ℕ) (v : Value) (ps : Pairs) → insert_value k v ps ≡ with_pair_set k v ps
inserted k v no_pairs = refl
inserted k v (pair l w ps) = ap (λ qs. cond (bytes_eq k l) (pair l v ps) (pair l w qs)) (inserted k v ps)

insert_pairs_read : (ps found : Pairs) → deduplicated_onto found ps ≡ with_pairs_set ps found
insert_pairs_read no_pairs found = refl
insert_pairs_read (pair k v ps) found = ap (λ qs. deduplicated_onto qs ps) (inserted k v found) ∙ insert_pairs_read ps (with_pair_set k v found)

pub once : (ps : Pairs) → AreDistinct (keys_of ps) → deduplicated ps ≡ ps
once ps apart = insert_pairs_read ps no_pairs ∙ once_is ps apart

-- each key once, as bytes are read and as a text is
pub each_once : (ps : Pairs) → deduplicated ps ≡ each_key_once ps
each_once ps = insert_pairs_read ps no_pairs
