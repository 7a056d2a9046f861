-- Members of an object as they are read, in their order.
use Rattle.std.proofs.Common.{◌≡◌, ℕ, zero, suc, ◌-◌, ◌<◌, List, [], ◌∷◌, ◌++◌, length, map, Option, Some, None}
use Rattle.std.proofs.Common.{Bor, true, false, option_map, option_and_then, refl, sym, ap, ◌∙◌}
use Rattle.std.proofs.Common.{Bool, bytes_eq, ◌&&◌, arith, append-nil, drop, is_some, take, take_all, length-drop}
use Rattle.json.specs.Json as json
use Rattle.json.specs.Json.{Parse, parse_map, read_key, members, members_step, value, if_last}
use Rattle.json.specs.Token.{Token}
use Rattle.json.proofs.Grammar.{members_end, read_key_is}
use Rattle.json.proofs.Grammar.{key_token, read_key-shorter, members_more}
use Rattle.serde_json.specs.Data.{Data, array, object, Items, Members, no_members, member}
use Rattle.serde_json.specs.Read.{of_json, converted}
use Rattle.bson_scalar.specs.declared.wrapper.Wrapper.{Wrapper}
use Rattle.bson_model.specs.OrderedTrees.{tree_of_json, items_of_json, members_of_json, tree_sorted_by_key}
use Rattle.bson_model.proofs.OfferedInOrder.{forgotten}
use Rattle.bson_tokens.proofs.Offered.{was_read}
use Rattle.bson_text.specs.TraversalResults.{tree_members_in_order, members_after_brace, members_after_key}

abbrev pub Key : Type 0
Key = Bor (List ℕ)

abbrev pub texts : List Key → List (List ℕ)
texts ks = map (λ k. k.now) ks

pub append_none : {A : Type 0} (xs : List A) → xs ++ [] ≡ xs
append_none xs = append-nil xs

pub texts_more : (ks : List Key) (k : Key) (ns : List (List ℕ)) → texts ks ++ k.now ∷ ns ≡ texts (ks ++ k ∷ []) ++ ns
texts_more [] k ns = refl
texts_more (l ∷ ks) k ns = ap (λ x. l.now ∷ x) (texts_more ks k ns)

drop_first : (old ks : List Key) → drop (length old) (old ++ ks) ≡ ks
drop_first [] ks = refl
drop_first (k ∷ old) ks = drop_first old ks

-- the keys that were held after the old ones
pub pushed : (old ks all : List Key) → all ≡ old ++ ks → texts (drop (length old) all) ≡ texts ks
pushed old ks all e = ap texts (ap (drop (length old)) e ∙ drop_first old ks)

-- the first member of those from a key on that was read
pub step_more : (p : Parse json.Json) (n : ℕ) (k : List ℕ) (ts r s : List Token) (next : Option (List ℕ)) (j : json.Json)
    (x : Option (json.Members × List Token)) → 0 < n → p ts ≡ Some (j, r) → read_key r ≡ Some (next, s)
    → members_step p (members p (n - 1)) next s ≡ x
    → members_step p (members p n) (Some k) ts ≡ parse_map (json.member k j) x
unfolding members
step_more p zero k ts r s next j x left first named here = let never : ⊥ = omega arith in absurd never
step_more p (suc n) k ts r s next j x left first named here =
    let less : n ≡ suc n - 1 = omega arith in
    ap (option_and_then (λ q. parse_map (json.member k q.0) (members p (suc n) q.1))) first
    ∙ ap (λ o. parse_map (json.member k j) (option_and_then (λ q. members_step p (members p n) q.0 q.1) o)) named
    ∙ ap (λ m. parse_map (json.member k j) (members_step p (members p m) next s)) less
    ∙ ap (parse_map (json.member k j)) here

-- an object whose first key, or end, was read
begun_at : (p : Parse json.Json) (k : Option (List ℕ)) (s : List Token)
    → members p (length (key_token k ∷ s)) (key_token k ∷ s) ≡ members_step p (members p (length s)) k s
unfolding members
begun_at p None s = refl
begun_at p (Some k) s = refl

pub begins : (depth : ℕ) (k : Option (List ℕ)) (ts s : List Token) → read_key ts ≡ Some (k, s)
    → members_after_brace depth ts ≡ members_after_key depth k s
begins depth k ts s h = ap (members_after_brace depth) (read_key_is ts k s h) ∙ begun_at (value depth) k s

-- a key that is not misplaced_wrapper
pub located : (b : Bool) (o : Option Wrapper) → (b && is_some o) ≡ false → b ≡ true → o ≡ None
located true None h is = refl
located true (Some w) h is = cc
located false o h is = cc

-- ---- a whole object

pub object_of : (x : Option (json.Members × List Token)) (ms : Members) (r : List Token)
    → tree_members_in_order x ≡ Some (ms, r) → converted tree_of_json (parse_map json.object x) ≡ Some (object ms, r)
object_of x ms r e = let p = was_read (λ js. members_of_json js no_members) x ms r e in
    ap (λ o. converted tree_of_json (parse_map json.object o)) p.1
    ∙ ap (λ o. option_map (λ d. (d, r)) (option_map object o)) p.2

-- ---- a list, and a text

pub array_of : (x : Option (json.Items × List Token)) (ts : Items) (r : List Token)
    → converted items_of_json x ≡ Some (ts, r) → converted tree_of_json (parse_map json.array x) ≡ Some (array ts, r)
array_of x ts r e = let p = was_read items_of_json x ts r e in
    ap (λ o. converted tree_of_json (parse_map json.array o)) p.1
    ∙ ap (λ o. option_map (λ d. (d, r)) (option_map array o)) p.2

pub last_read : (o : Option (json.Json × List Token)) (d : Data) → converted tree_of_json o ≡ Some (d, [])
    → option_and_then tree_of_json (option_and_then (λ p. if_last p.0 p.1) o) ≡ Some d
last_read o d h =
    let j = was_read tree_of_json o d [] h in
    ap (λ q. option_and_then tree_of_json (option_and_then (λ p. if_last p.0 p.1) q)) j.1 ∙ j.2

-- ---- an object of one key

mapped : {A B : Type 0} (g : A → B) (x : Option A) (b : B) → option_map g x ≡ Some b
    → (a : A) × (x ≡ Some a) × (g a ≡ b)
mapped g None b h = cc
mapped g (Some a) b h = (a, refl, cc)

-- the tree in order of what has a tree by default
pub kept_from : (j : json.Json) (held : Data) → of_json j ≡ Some held
    → (d : Data) × (tree_of_json j ≡ Some d) × (tree_sorted_by_key d ≡ held)
kept_from j held h = mapped tree_sorted_by_key (tree_of_json j) held (sym (forgotten j) ∙ h)

pub alone : (depth : ℕ) (k : List ℕ) (ts r s : List Token) (j : json.Json) → length r < length ts
    → value depth ts ≡ Some (j, r) → read_key r ≡ Some (None, s)
    → members_after_key depth (Some k) ts ≡ Some (json.member k j json.no_members, s)
alone depth k ts r s j less read ended =
    ap (option_and_then (λ q. parse_map (json.member k q.0) (members (value depth) (length ts) q.1))) read
    ∙ ap (parse_map (json.member k j)) (members_end (value depth) (length ts) r s (omega (arith, less)) ended)

-- an object of two keys
pub two : (depth : ℕ) (k l : List ℕ) (ts r q end rest : List Token) (j i : json.Json) → length r < length ts
    → value depth ts ≡ Some (j, r) → read_key r ≡ Some (Some l, q) → value depth q ≡ Some (i, end)
    → length end < length q → read_key end ≡ Some (None, rest)
    → members_after_key depth (Some k) ts ≡ Some (json.member k j (json.member l i json.no_members), rest)
two depth k l ts r q end rest j i less read named other fewer ended =
    let n = length ts in
    let shorter = read_key-shorter r (Some l) q named in
    ap (option_and_then (λ x. parse_map (json.member k x.0) (members (value depth) n x.1))) read
    ∙ ap (parse_map (json.member k j)) (members_more (value depth) n l r q end i (omega (arith, less)) named other
    ∙ ap (parse_map (json.member l i))
    (members_end (value depth) (n - 1) end rest (omega (arith, less, shorter, fewer)) ended))

pub two_kept : (k l : List ℕ) (j i : json.Json) (d e : Data) (s : List Token) → bytes_eq l k ≡ false → tree_of_json j ≡ Some d
    → tree_of_json i ≡ Some e
    → tree_members_in_order (Some (json.member k j (json.member l i json.no_members), s))
    ≡ Some (member k d (member l e no_members), s)
two_kept k l j i d e s differ h g = rw (h, g, differ) refl

pub alone_kept : (k : List ℕ) (j : json.Json) (d : Data) (s : List Token) → tree_of_json j ≡ Some d
    → tree_members_in_order (Some (json.member k j json.no_members, s)) ≡ Some (member k d no_members, s)
alone_kept k j d s h =
    ap (λ o. option_map (λ ms. (ms, s)) (option_and_then (λ e. Some (member k e no_members)) o)) h

-- the keys of the document that ends
pub own_keys : (old ks all : List Key) (held : ℕ) → all ≡ old ++ ks → held ≡ length old
    → texts (take (length all - held) (drop held all)) ≡ texts ks
own_keys old ks all held is at =
    ap texts (take_all _ (drop held all) (omega (arith, length-drop held all)) ∙ ap (λ n. drop n all) at)
    ∙ pushed old ks all is
