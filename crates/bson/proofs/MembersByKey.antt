-- Members inserted by ascending key, and a store whose keys ascend.
use Rattle.std.proofs.Common.{◌≡◌, ℕ, List, [], ◌∷◌, Less, string_bytes, refl, sym, ap, ◌∙◌, subst}
use Rattle.std.specs.List.{AllByRecursion}
use Rattle.std.specs.List.Sorted.{IsStrictlySortedBy}
use Rattle.bson_store.specs.AscendingOrder.{key_cmp}
use Rattle.bson_store.specs.Pairs.{keys}
use Rattle.bson_store.specs.KeyIndex as store
use Rattle.bson_store.specs.KeyIndex.{stored_pairs}
use Rattle.bson_model.specs.Sorted.{insert_sorted_pair, IsBelowKeys, KeysAscend}
use Rattle.bson_model.specs.StableOrder.{pairs_of}
use Rattle.bson_model.specs.Value.{Pairs, no_pairs, pair}
use Rattle.bson_model.proofs.Offered.{put_ascending}
use Rattle.bson.specs.SortedMembers.{Member, pairs_of_members, member_key, member_value, insert_members}
use Rattle.bson.proofs.PutAscends.{put_ascends}

pub all_ascend : (ms : List Member) (ps : Pairs) → KeysAscend ps → KeysAscend (insert_members ms ps)
all_ascend [] ps up = up
all_ascend (m ∷ ms) ps up =
    all_ascend ms (insert_sorted_pair (member_key m) (member_value m) ps) (put_ascends (member_key m) (member_value m) ps up)

as_collected : (ms : List Member) → pairs_of member_key member_value ms ≡ pairs_of_members ms
as_collected [] = refl
as_collected (m ∷ ms) = ap (pair (member_key m) (member_value m)) (as_collected ms)

-- members that ascend are inserted unchanged
pub put_collected : (ms : List Member) → KeysAscend (pairs_of_members ms) → insert_members ms no_pairs ≡ pairs_of_members ms
put_collected ms up =
    put_ascending member_key member_value ms (subst KeysAscend (sym (as_collected ms)) up) ∙ as_collected ms

-- ---- keys that ascend in a store

below_all : (k : List ℕ) (ms : List Member) → IsBelowKeys k (pairs_of_members ms)
    → AllByRecursion (λ q. key_cmp k q ≡ Less) (keys (stored_pairs ms))
below_all k [] h = tt
below_all k (m ∷ ms) h = (h.0, below_all k ms h.1)

pub to_store : (ms : List Member) → KeysAscend (pairs_of_members ms) → store.HasAscendingKeys (stored_pairs ms)
unfolding IsStrictlySortedBy
to_store [] up = tt
to_store (m ∷ ms) up = (below_all (string_bytes m.key) ms up.0, to_store ms up.1)

least_of : (k : List ℕ) (ms : List Member) → AllByRecursion (λ q. key_cmp k q ≡ Less) (keys (stored_pairs ms))
    → IsBelowKeys k (pairs_of_members ms)
least_of k [] h = tt
least_of k (m ∷ ms) h = (h.0, least_of k ms h.1)

pub from_store : (ms : List Member) → store.HasAscendingKeys (stored_pairs ms) → KeysAscend (pairs_of_members ms)
unfolding IsStrictlySortedBy
from_store [] up = tt
from_store (m ∷ ms) up = (least_of (string_bytes m.key) ms up.0, from_store ms up.1)
