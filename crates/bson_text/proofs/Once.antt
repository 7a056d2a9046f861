-- Pairs of which no key occurs twice: set in turn they are unchanged.
use Rattle.std.proofs.Common.{◌≡◌, ℕ, List, false, bytes_eq, refl, sym, ap, ◌∙◌, subst}
use Rattle.std.proofs.lemmas.Bool.{or_parts}
use Rattle.json.specs.Strict.{AreDistinct}
use Rattle.bson_model.specs.Value.{Value, Pairs, no_pairs, pair}
use Rattle.bson_model.proofs.OfferedInOrder.{turned}
use Rattle.bson_text.specs.TraversalResults.{keys_of, with_pair_set, with_pairs_set, each_key_once}
use Rattle.bson_text.proofs.Differ.{stands, Differ, differ}

-- pairs after others
abbrev joined : Pairs → Pairs → Pairs
joined no_pairs qs = qs
joined (pair k v ps) qs = pair k v (joined ps qs)

joined_none : (ps : Pairs) → joined ps no_pairs ≡ ps
joined_none no_pairs = refl
joined_none (pair k v ps) = ap (pair k v) (joined_none ps)

joined_again : (ps : Pairs) (k : List ℕ) (v : Value) (qs : Pairs)
    → joined (joined ps (pair k v no_pairs)) qs ≡ joined ps (pair k v qs)
joined_again no_pairs k v qs = refl
joined_again (pair l w ps) k v qs = ap (pair l w) (joined_again ps k v qs)

apart_from : (l : List ℕ) (found : Pairs) (k : List ℕ) (v : Value) (ps : Pairs)
    → stands l (keys_of (joined found (pair k v ps))) ≡ false → bytes_eq l k ≡ false
apart_from l no_pairs k v ps h = (or_parts (bytes_eq l k) (stands l (keys_of ps)) h).0
apart_from l (pair a w found) k v ps h =
    apart_from l found k v ps (or_parts (bytes_eq l a) (stands l (keys_of (joined found (pair k v ps)))) h).1

-- a new key becomes the last
set_last : (found : Pairs) (k : List ℕ) (v : Value) (ps : Pairs) → Differ (keys_of (joined found (pair k v ps)))
    → with_pair_set k v found ≡ joined found (pair k v no_pairs)
set_last no_pairs k v ps h = refl
set_last (pair l w found) k v ps h =
    let apart : bytes_eq k l ≡ false = turned l k (apart_from l found k v ps h.0) in
    rw apart (ap (pair l w) (set_last found k v ps h.1))

set_in_turn : (ps found : Pairs) → Differ (keys_of (joined found ps)) → with_pairs_set ps found ≡ joined found ps
set_in_turn no_pairs found h = sym (joined_none found)
set_in_turn (pair k v ps) found h =
    let again = joined_again found k v ps in
    ap (with_pairs_set ps) (set_last found k v ps h)
    ∙ set_in_turn ps (joined found (pair k v no_pairs)) (subst (λ qs. Differ (keys_of qs)) (sym again) h) ∙ again

pub once_is : (ps : Pairs) → AreDistinct (keys_of ps) → each_key_once ps ≡ ps
once_is ps apart = set_in_turn ps no_pairs (differ (keys_of ps) apart)
