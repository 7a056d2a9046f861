-- Elements and members as they are read, a round at a time.
use Rattle.std.proofs.Common.{◌≡◌, ℕ, zero, suc, ◌-◌, ◌<◌, ◌≤◌, List, [], ◌∷◌, length, Option, Some, None}
use Rattle.std.proofs.Common.{option_and_then, refl, sym, ap, ◌∙◌, arith}
use Rattle.json.specs.Token.{Token}
use Rattle.json.specs.Json.{Json, Items, no_items, item, Members, no_members, member, Parse, parse_map}
use Rattle.json.specs.Json.{after_end_array, read_key, items_step, members_step, items, members, value}
use Rattle.json.proofs.Grammar.{left, items_end, items_fail, items_more, members_end, members_fail, members_more}
use Rattle.json.proofs.Grammar.{members_no_key, read_key-shorter, skip_value-shorter, value_is}
use Rattle.bson_tokens.specs.NormalizerStates.{array_rest, object_rest}

-- ---- more rounds than there are tokens change nothing

same_turns : {A : Type 0} (f : ℕ → Parse A) → ((n : ℕ) → f n [] ≡ None)
    → ((n m : ℕ) (ts : List Token) → ((r : List Token) → length r < length ts → f n r ≡ f m r)
    → f (suc n) ts ≡ f (suc m) ts)
    → (n m : ℕ) (ts : List Token) → length ts ≤ n → length ts ≤ m → f n ts ≡ f m ts
same_turns f none turn n m [] a b = none n ∙ sym (none m)
same_turns f none turn zero m (t ∷ ts) a b = let never : ⊥ = omega (arith, a) in absurd never
same_turns f none turn (suc n) zero (t ∷ ts) a b = let never : ⊥ = omega (arith, b) in absurd never
same_turns f none turn (suc n) (suc m) (t ∷ ts) a b =
    turn n m (t ∷ ts) (λ r less. same_turns f none turn n m r (omega (arith, a, less)) (omega (arith, b, less)))

same_behind : {A : Type 0} (f : Json → A → A) (x y : Parse A) (o : Option (Json × List Token))
    → ((j : Json) (r : List Token) → o ≡ Some (j, r) → x r ≡ y r)
    → option_and_then (λ q. parse_map (f q.0) (x q.1)) o ≡ option_and_then (λ q. parse_map (f q.0) (y q.1)) o
same_behind f x y None same = refl
same_behind f x y (Some (j, r)) same = ap (parse_map (f j)) (same j r refl)

module _ (depth : ℕ) where
  item_turn : (x y : Parse Items) (ts : List Token) → ((r : List Token) → length r < length ts → x r ≡ y r)
      → (o : Option (List Token)) → items_step (value depth) x ts o ≡ items_step (value depth) y ts o
  item_turn x y ts same (Some r) = refl
  item_turn x y ts same None =
      same_behind item x y (value depth ts) (λ j r read. same r (skip_value-shorter depth ts r (ap left read)))

  member_turn : (x y : Parse Members) (ts : List Token) → ((r : List Token) → length r < length ts → x r ≡ y r)
      → (o : Option (Option (List ℕ) × List Token)) → read_key ts ≡ o
      → option_and_then (λ q. members_step (value depth) x q.0 q.1) o
      ≡ option_and_then (λ q. members_step (value depth) y q.0 q.1) o
  member_turn x y ts same None is = refl
  member_turn x y ts same (Some (None, s)) is = refl
  member_turn x y ts same (Some (Some k, s)) is =
      same_behind (member k) x y (value depth s) (λ j r read.
      same r (omega (arith, read_key-shorter ts (Some k) s is, skip_value-shorter depth s r (ap left read))))

  same_items : (n m : ℕ) (ts : List Token) → length ts ≤ n → length ts ≤ m
      → items (value depth) n ts ≡ items (value depth) m ts
  unfolding items
  same_items =
      same_turns (items (value depth)) (λ n. items_fail (value depth) n [] refl (value_is depth []))
      (λ n m ts same. item_turn (items (value depth) n) (items (value depth) m) ts same (after_end_array ts))

  same_members : (n m : ℕ) (ts : List Token) → length ts ≤ n → length ts ≤ m
      → members (value depth) n ts ≡ members (value depth) m ts
  unfolding members
  same_members =
      same_turns (members (value depth)) (λ n. members_no_key (value depth) n [] refl)
      (λ n m ts same. member_turn (members (value depth) n) (members (value depth) m) ts same (read_key ts) refl)

  -- ---- one more element, the end of the array, and where it breaks

  pub one_item : (ts r : List Token) (j : Json) → after_end_array ts ≡ None → value depth ts ≡ Some (j, r)
      → array_rest depth ts ≡ parse_map (item j) (array_rest depth r)
  one_item ts r j going read =
      let less = skip_value-shorter depth ts r (ap left read) in
      items_more (value depth) (length ts) ts r j (omega (arith, less)) going read
      ∙ ap (parse_map (item j)) (same_items (length ts - 1) (length r) r (omega (arith, less)) (omega arith))

  pub last_item : (ts r : List Token) → after_end_array ts ≡ Some r → array_rest depth ts ≡ Some (no_items, r)
  last_item ts r ended = items_end (value depth) (length ts) ts r (omega arith) ended

  pub no_item : (ts : List Token) → after_end_array ts ≡ None → value depth ts ≡ None → array_rest depth ts ≡ None
  no_item ts going none = items_fail (value depth) (length ts) ts going none

  -- ---- one more member, the end of the object, and where it breaks

  pub one_member : (k : List ℕ) (ts s r : List Token) (j : Json) → read_key ts ≡ Some (Some k, s)
      → value depth s ≡ Some (j, r) → object_rest depth ts ≡ parse_map (member k j) (object_rest depth r)
  one_member k ts s r j named read =
      let less = skip_value-shorter depth s r (ap left read) in
      let first = read_key-shorter ts (Some k) s named in
      members_more (value depth) (length ts) k ts s r j (omega (arith, less, first)) named read
      ∙ ap (parse_map (member k j))
      (same_members (length ts - 1) (length r) r (omega (arith, less, first)) (omega arith))

  pub last_member : (ts r : List Token) → read_key ts ≡ Some (None, r) → object_rest depth ts ≡ Some (no_members, r)
  last_member ts r ended = members_end (value depth) (length ts) ts r (omega arith) ended

  pub no_key : (ts : List Token) → read_key ts ≡ None → object_rest depth ts ≡ None
  no_key ts none = members_no_key (value depth) (length ts) ts none

  pub no_member : (k : List ℕ) (ts s : List Token) → read_key ts ≡ Some (Some k, s) → value depth s ≡ None
      → object_rest depth ts ≡ None
  no_member k ts s named none = members_fail (value depth) (length ts) k ts s named none
