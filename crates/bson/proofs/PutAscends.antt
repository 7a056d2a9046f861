-- With one more pair the keys still ascend.
use Rattle.std.proofs.Common.{◌≡◌, ℕ, List, Ordering, Less, Equal, Greater, nat_cmp, refl}
use Rattle.std.specs.Cmp.Lexicographic.{slice_cmp}
use Rattle.std.specs.Ordering.{match_ordering}
use Rattle.std.proofs.lemmas.Cmp.{nat_list_cmp_total}
use Rattle.bson_model.specs.Sorted.{insert_sorted_pair, IsBelowKeys, KeysAscend}
use Rattle.bson_model.specs.Value.{Value, Pairs, no_pairs, pair}
use Rattle.bson_model.proofs.Offered.{flipped}

least_at : (o : Ordering) (q k l : List ℕ) (v w : Value) (ps : Pairs) → slice_cmp nat_cmp q k ≡ Less
    → slice_cmp nat_cmp q l ≡ Less → IsBelowKeys q ps → IsBelowKeys q (insert_sorted_pair k v ps)
    → IsBelowKeys q (match_ordering o (pair k v (pair l w ps)) (pair l v ps) (pair l w (insert_sorted_pair k v ps)))
least_at Less q k l v w ps a b more is = (a, (b, more))
least_at Equal q k l v w ps a b more is = (b, more)
least_at Greater q k l v w ps a b more is = (b, is)

still_least : (q k : List ℕ) (v : Value) (ps : Pairs) → slice_cmp nat_cmp q k ≡ Less → IsBelowKeys q ps
    → IsBelowKeys q (insert_sorted_pair k v ps)
still_least q k v no_pairs a h = (a, tt)
still_least q k v (pair l w ps) a h = least_at (slice_cmp nat_cmp k l) q k l v w ps a h.0 h.1
    (still_least q k v ps a h.1)

pub less_than_least : (q k : List ℕ) (ps : Pairs) → slice_cmp nat_cmp q k ≡ Less → IsBelowKeys k ps → IsBelowKeys q ps
less_than_least q k no_pairs a h = tt
less_than_least q k (pair l v ps) a h = (nat_list_cmp_total.trans q k l a h.0, less_than_least q k ps a h.1)

ascend_at : (o : Ordering) (k l : List ℕ) (v w : Value) (ps : Pairs) → slice_cmp nat_cmp k l ≡ o → IsBelowKeys l ps
    → KeysAscend ps → KeysAscend (insert_sorted_pair k v ps)
    → KeysAscend (match_ordering o (pair k v (pair l w ps)) (pair l v ps) (pair l w (insert_sorted_pair k v ps)))
ascend_at Less k l v w ps h a up is = ((h, less_than_least k l ps h a), (a, up))
ascend_at Equal k l v w ps h a up is = (a, up)
ascend_at Greater k l v w ps h a up is = (still_least l k v ps (flipped k l Greater h) a, is)

-- the keys still ascend
pub put_ascends : (k : List ℕ) (v : Value) (ps : Pairs) → KeysAscend ps → KeysAscend (insert_sorted_pair k v ps)
put_ascends k v no_pairs up = (tt, tt)
put_ascends k v (pair l w ps) up = ascend_at (slice_cmp nat_cmp k l) k l v w ps refl up.0 up.1 (put_ascends k v ps up.1)
