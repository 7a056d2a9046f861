-- A round of the grammar's loops over tokens, where each part that is read becomes a part of the tree.
use Rattle.std.proofs.Common.{◌≡◌, ℕ, zero, suc, ◌-◌, ◌<◌, ◌≤◌, List, length, Option, Some, None, Result, Ok, Err}
use Rattle.std.proofs.Common.{IfOk, IfErr, option_map, refl, ap, ◌∙◌, arith}
use Rattle.std.proofs.lemmas.Option.{same_Some}
use Rattle.json.specs.Token.{Token}
use Rattle.json.specs.Json as json
use Rattle.json.specs.Json.{Parse, parse_map, after_end_array, read_key, items, members, value}
use Rattle.json.proofs.Grammar.{items_end, items_more, members_end, members_more}
use Rattle.json.proofs.Grammar.{read_key-shorter, items_fail, members_no_key, members_fail}
use Rattle.serde_json.specs.Data.{Data, no_items, item, Members, put}
use Rattle.serde_json.specs.Read.{of_json, of_items, of_members, converted}
use Rattle.bson_tokens.specs.ReadOutcomes.{MembersAreReadInto, ReadsNoMembers}

-- what holds of a value that was read has what follows from it
pub if_ok : {X E : Type 0} {P Q : X → Type 0} (r : Result X E) → IfOk r P → ((x : X) → P x → Q x) → IfOk r Q
if_ok (Ok x) h f = f x h
if_ok (Err e) h f = tt

-- what became a part of the tree, beside the tokens that are left
beside : {B : Type 0} (x : Option B) (r s : List Token) (b : B)
    → option_map {U = B × List Token} (λ y. (y, r)) x ≡ Some (b, s) → (x ≡ Some b) × (r ≡ s)
beside None r s b e = cc
beside {B} (Some y) r s b e =
    let same : (y, r) ≡ (b, s) = same_Some {A = B × List Token} (y, r) (b, s) e in
    (ap (λ p. Some p.0) same, ap (λ p. p.1) same)

-- what became a part of the tree was read
pub was_read : {A B : Type 0} (f : A → Option B) (o : Option (A × List Token)) (b : B) (r : List Token)
    → converted f o ≡ Some (b, r) → (a : A) × (o ≡ Some (a, r)) × (f a ≡ Some b)
was_read f None b r e = cc
was_read f (Some (a, s)) b r e = let h = beside (f a) s r b e in (a, ap (λ t. Some (a, t)) h.1, h.0)

-- a function of the part, before or after the tokens that are left come to it
pub under : {A B : Type 0} (g : A → B) (x : Option A) (r : List Token)
    → option_map (λ b. (b, r)) (option_map g x) ≡ parse_map g (option_map (λ a. (a, r)) x)
under g None r = refl
under g (Some a) r = refl

first_item : (j : json.Json) (d : Data) (o : Option (json.Items × List Token)) → of_json j ≡ Some d
    → converted of_items (parse_map (json.item j) o) ≡ parse_map (item d) (converted of_items o)
first_item j d None h = refl
first_item j d (Some (js, r)) h = rw h (under (item d) (of_items js) r)

first_member : (k : List ℕ) (j : json.Json) (d : Data) (old : Members) (o : Option (json.Members × List Token))
    → of_json j ≡ Some d
    → converted (λ ms. of_members ms old) (parse_map (json.member k j) o)
    ≡ converted (λ ms. of_members ms (put k d old)) o
first_member k j d old None h = refl
first_member k j d old (Some (js, r)) h = rw h refl

module _ (p : Parse json.Json) (n : ℕ) where
  -- one more element, and the end of the array
  pub one_item : (ts r : List Token) (d : Data) → 0 < n → after_end_array ts ≡ None
      → converted of_json (p ts) ≡ Some (d, r)
      → converted of_items (items p n ts) ≡ parse_map (item d) (converted of_items (items p (n - 1) r))
  one_item ts r d left going e =
      let j = was_read of_json (p ts) d r e in
      ap (converted of_items) (items_more p n ts r j.0 left going j.1) ∙ first_item j.0 d _ j.2

  pub last_item : (ts r : List Token) → length ts ≤ n → after_end_array ts ≡ Some r
      → converted of_items (items p n ts) ≡ Some (no_items, r)
  last_item ts r enough e = ap (converted of_items) (items_end p n ts r enough e)

  -- one more member, and the end of the object
  pub one_member : (old : Members) (k : List ℕ) (ts s r : List Token) (d : Data) → 0 < n
      → read_key ts ≡ Some (Some k, s) → converted of_json (p s) ≡ Some (d, r)
      → converted (λ ms. of_members ms old) (members p n ts)
      ≡ converted (λ ms. of_members ms (put k d old)) (members p (n - 1) r)
  one_member old k ts s r d left key e =
      let j = was_read of_json (p s) d r e in
      ap (converted (λ ms. of_members ms old)) (members_more p n k ts s r j.0 left key j.1)
      ∙ first_member k j.0 d old _ j.2

  pub last_member : (old : Members) (ts r : List Token) → length ts ≤ n → read_key ts ≡ Some (None, r)
      → converted (λ ms. of_members ms old) (members p n ts) ≡ Some (old, r)
  last_member old ts r enough e = ap (converted (λ ms. of_members ms old)) (members_end p n ts r enough e)

-- to the end of the object: one more member, and no more
pub more_members : (depth : ℕ) (k : List ℕ) (ts s r rest : List Token) (d : Data) (old new : Members)
    → read_key ts ≡ Some (Some k, s) → converted of_json (value depth s) ≡ Some (d, r) → length r < length s
    → MembersAreReadInto depth (put k d old) r new rest → MembersAreReadInto depth old ts new rest
more_members depth k ts s r rest d old new named held less more =
    let first = read_key-shorter ts (Some k) s named in
    λ n enough. one_member (value depth) n old k ts s r d (omega (arith, enough, first)) named held
    ∙ more (n - 1) (omega (arith, enough, first, less))

pub no_more_members : (depth : ℕ) (ts rest : List Token) (old : Members) → read_key ts ≡ Some (None, rest)
    → MembersAreReadInto depth old ts old rest
no_more_members depth ts rest old ended = λ n enough. last_member (value depth) n old ts rest enough ended

-- ---- where the text breaks

was_none : {A B : Type 0} (f : A → B) (x : Option A) → option_map f x ≡ None → x ≡ None
was_none f None h = refl
was_none f (Some a) h = cc

none_first : (j : json.Json) (o : Option (json.Items × List Token)) → of_json j ≡ None
    → converted of_items (parse_map (json.item j) o) ≡ None
none_first j None h = refl
none_first j (Some (js, r)) h = rw h refl

none_at : (k : List ℕ) (j : json.Json) (old : Members) (o : Option (json.Members × List Token)) → of_json j ≡ None
    → converted (λ ms. of_members ms old) (parse_map (json.member k j) o) ≡ None
none_at k j old None h = refl
none_at k j old (Some (js, r)) h = rw h refl

-- the elements are not read to the end of the array
abbrev pub NoItems : ℕ → List Token → Type 0
NoItems depth ts = (n : ℕ) → converted of_items (items (value depth) n ts) ≡ None

module _ (p : Parse json.Json) where
  item_breaks : (n : ℕ) (ts : List Token) (o : Option (json.Json × List Token)) → after_end_array ts ≡ None → p ts ≡ o
      → converted of_json o ≡ None → converted of_items (items p n ts) ≡ None
  unfolding items
  item_breaks n ts None going is h = ap (converted of_items) (items_fail p n ts going is)
  item_breaks zero ts (Some (j, r)) going is h = refl
  item_breaks (suc n) ts (Some (j, r)) going is h =
      ap (converted of_items) (items_more p (suc n) ts r j (omega arith) going is)
      ∙ none_first j _ (was_none (λ d. (d, r)) (of_json j) h)

  member_breaks : (n : ℕ) (k : List ℕ) (ts s : List Token) (old : Members) (o : Option (json.Json × List Token))
      → read_key ts ≡ Some (Some k, s) → p s ≡ o → converted of_json o ≡ None
      → converted (λ ms. of_members ms old) (members p n ts) ≡ None
  unfolding members
  member_breaks n k ts s old None named is h =
      ap (converted (λ ms. of_members ms old)) (members_fail p n k ts s named is)
  member_breaks zero k ts s old (Some (j, r)) named is h = refl
  member_breaks (suc n) k ts s old (Some (j, r)) named is h =
      ap (converted (λ ms. of_members ms old)) (members_more p (suc n) k ts s r j (omega arith) named is)
      ∙ none_at k j old _ (was_none (λ d. (d, r)) (of_json j) h)

-- an element breaks, or one after it
pub no_item : (depth : ℕ) (ts : List Token) → after_end_array ts ≡ None → converted of_json (value depth ts) ≡ None
    → NoItems depth ts
no_item depth ts going h n = item_breaks (value depth) n ts (value depth ts) going refl h

pub no_more_items : (depth : ℕ) (ts r : List Token) (d : Data) → after_end_array ts ≡ None
    → converted of_json (value depth ts) ≡ Some (d, r) → NoItems depth r → NoItems depth ts
unfolding items
no_more_items depth ts r d going read h zero = refl
no_more_items depth ts r d going read h (suc n) =
    one_item (value depth) (suc n) ts r d (omega arith) going read ∙ ap (parse_map (item d)) (h (suc n - 1))

-- no key is there; the value at the key breaks, or what is after it
pub no_key : (depth : ℕ) (ts : List Token) → read_key ts ≡ None → ReadsNoMembers depth ts
no_key depth ts none old n = ap (converted (λ ms. of_members ms old)) (members_no_key (value depth) n ts none)

pub no_member : (depth : ℕ) (k : List ℕ) (ts s : List Token) → read_key ts ≡ Some (Some k, s)
    → converted of_json (value depth s) ≡ None → ReadsNoMembers depth ts
no_member depth k ts s named h old n = member_breaks (value depth) n k ts s old (value depth s) named refl h

pub no_members_behind : (depth : ℕ) (k : List ℕ) (ts s r : List Token) (d : Data) → read_key ts ≡ Some (Some k, s)
    → converted of_json (value depth s) ≡ Some (d, r) → ReadsNoMembers depth r → ReadsNoMembers depth ts
unfolding members
no_members_behind depth k ts s r d named read h old zero = refl
no_members_behind depth k ts s r d named read h old (suc n) =
    one_member (value depth) (suc n) old k ts s r d (omega arith) named read ∙ h (put k d old) (suc n - 1)

-- what holds of an error has what follows from it
pub if_err : {X E : Type 0} {P Q : E → Type 0} (r : Result X E) → IfErr r P → ((e : E) → P e → Q e) → IfErr r Q
if_err (Ok x) h f = tt
if_err (Err e) h f = f e h
