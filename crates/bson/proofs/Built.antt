-- What was built, with one part more.
use Rattle.std.proofs.Common.{◌≡◌, ℕ, suc, List, [], ◌∷◌, ◌++◌, Bool, true, false, cond, Option, None, Some}
use Rattle.std.proofs.Common.{option_map, refl, ap}
use Rattle.std.specs.Str.{bytes_eq}
use Rattle.bson_store.specs.Pairs.{position_of}
use Rattle.bson_model.specs.Value.{Value, Values, value, Pairs, pair, value_at_key}
use Rattle.bson_model.specs.Normal.{NumbersInRange, ItemsInRange, PairsInRange}
use Rattle.bson_tree.specs.Built.{push_value, push_pair}
use Rattle.bson.specs.View.{bson_view, values_view, pairs_view}
use Rattle.bson.specs.declared.bson.Bson.{Bson}

values_snoc : (bs : List Bson) (b : Bson) → values_view (bs ++ b ∷ []) ≡ push_value (values_view bs) (bson_view b)
values_snoc [] b = refl
values_snoc (c ∷ bs) b = ap (value (bson_view c)) (values_snoc bs b)

values_in_range : (bs : List Bson) (b : Bson) → ItemsInRange (values_view bs) → NumbersInRange (bson_view b)
    → ItemsInRange (values_view (bs ++ b ∷ []))
values_in_range [] b h r = (r, tt)
values_in_range (c ∷ bs) b h r = (h.0, values_in_range bs b h.1 r)

pairs_snoc : (ps : List (List ℕ × Bson)) (k : List ℕ) (b : Bson)
    → pairs_view (ps ++ (k, b) ∷ []) ≡ push_pair (pairs_view ps) k (bson_view b)
pairs_snoc [] k b = refl
pairs_snoc (p ∷ ps) k b = ap (pair p.0 (bson_view p.1)) (pairs_snoc ps k b)

pairs_in_range : (ps : List (List ℕ × Bson)) (k : List ℕ) (b : Bson) → PairsInRange (pairs_view ps)
    → NumbersInRange (bson_view b) → PairsInRange (pairs_view (ps ++ (k, b) ∷ []))
pairs_in_range [] k b h r = (r, tt)
pairs_in_range (p ∷ ps) k b h r = (h.0, pairs_in_range ps k b h.1 r)

-- these elements represent the values, and these pairs represent those
abbrev pub StandForItems : List Bson → Values → Type 0
StandForItems bs vs = (values_view bs ≡ vs) × ItemsInRange (values_view bs)

abbrev pub StandForPairs : List (List ℕ × Bson) → Pairs → Type 0
StandForPairs ps qs = (pairs_view ps ≡ qs) × PairsInRange (pairs_view ps)

pub one_listed : (new bs : List Bson) (b : Bson) (vs : Values) (v : Value) → new ≡ bs ++ b ∷ [] → StandForItems bs vs
    → (bson_view b ≡ v) × NumbersInRange (bson_view b) → StandForItems new (push_value vs v)
one_listed new bs b vs v is listed represents =
    rw (is, ← listed.0, ← represents.0) (values_snoc bs b, values_in_range bs b listed.1 represents.1)

pub one_paired : (new ps : List (List ℕ × Bson)) (k : List ℕ) (b : Bson) (qs : Pairs) (v : Value)
    → new ≡ ps ++ (k, b) ∷ [] → StandForPairs ps qs → (bson_view b ≡ v) × NumbersInRange (bson_view b)
    → StandForPairs new (push_pair qs k v)
one_paired new ps k b qs v is paired represents =
    rw (is, ← paired.0, ← represents.0) (pairs_snoc ps k b, pairs_in_range ps k b paired.1 represents.1)

-- ---- a key that is not there yet

not_there : (b : Bool) (x : Value) (o : Option Value) (r : Option ℕ) → cond b (Some x) o ≡ None → (o ≡ None → r ≡ None)
    → cond b (Some 0) (option_map suc r) ≡ None
not_there true x o r h f = cc
not_there false x o r h f = rw (f h) refl

pub lacks : (k : List ℕ) (ps : List (List ℕ × Bson)) → value_at_key k (pairs_view ps) ≡ None → position_of k ps ≡ None
lacks k [] h = refl
lacks k (p ∷ ps) h = not_there (bytes_eq k p.0) (bson_view p.1) (value_at_key k (pairs_view ps)) (position_of k ps) h (lacks k ps)
