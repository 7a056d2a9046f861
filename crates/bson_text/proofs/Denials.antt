-- What a failure denies, from part to whole.
use Rattle.std.proofs.Common.{◌≡◌, ℕ, zero, suc, ◌-◌, ◌<◌, List, [], ◌∷◌, Option, Some, None}
use Rattle.std.proofs.Common.{Result, Ok, Err, Bool, true, false, option_map, option_and_then, refl, sym, ap, ◌∙◌, subst}
use Rattle.std.proofs.Common.{arith, ◌&&◌, is_some}
use Rattle.std.proofs.lemmas.Bool.{or_parts}
use Rattle.std.proofs.lemmas.Option.{same_Some}
use Rattle.json.specs.Json as json
use Rattle.json.specs.Json.{Parse, parse_map, after_end_array, read_key, items, items_step, members, members_step}
use Rattle.json.specs.Strict.{AreDistinct, keys, HasUniqueKeys}
use Rattle.json.specs.Token.{Token}
use Rattle.json.proofs.Grammar.{items_more, members_no_key}
use Rattle.serde_json.specs.Data.{Data, Num, Members, no_members, member, array, object}
use Rattle.serde_json.specs.Data as tree
use Rattle.bson_scalar.specs.Faults.{Fault, ◌>>=◌}
use Rattle.bson_scalar.proofs.Offered.{scalar_form, scalar_from}
use Rattle.bson_scalar.specs.Normal.{writable_scalar_in}
use Rattle.bson_scalar.specs.Reading.{number_read_in, optional_wrapper_read_in, wrapper_read_in}
use Rattle.bson_scalar.specs.Scalar.{Scalar}
use Rattle.bson_scalar.specs.Table.{wrapper_of, has_wrapper}
use Rattle.bson_scalar.specs.declared.form.Doubles.{Doubles}
use Rattle.bson_scalar.specs.declared.wrapper.Wrapper.{Wrapper}
use Rattle.bson_model.specs.Value as model
use Rattle.bson_model.specs.Value.{Value, Pairs, pair}
use Rattle.bson_model.specs.OrderedTrees.{tree_of_json, items_of_json}
use Rattle.bson_model.specs.OrderedReading.{reads_tree_in_order, reads_items_in_order, reads_members_in_order}
use Rattle.bson_text.specs.TraversalResults.{keys_of}
use Rattle.bson_text.proofs.Becoming.{lacks_by_writer}
use Rattle.bson_text.proofs.Objects.{step_more, Key, texts, append_none}
use Rattle.bson_text.proofs.Walking.{ToGo}
use Rattle.bson_tokens.specs.PutMembers.{KeysAscendFrom}
use Rattle.bson_text.specs.TraversalErrors.{ErrorRulesOut, IsNotParsed, IsWriterErrorIf}
use Rattle.bson_text.specs.ErrorDenials.{members_as_given, IsMeaningful, ItemsAreMeaningful, MembersAreMeaningful}
use Rattle.bson_text.specs.ErrorDenials.{ErrorRulesOutValueClaim, ErrorRulesOutItemsClaim, ErrorRulesOutMembersClaim}
use Rattle.bson_text.specs.ErrorDenials.{ErrorRulesOutValue, ErrorRulesOutItems, ErrorRulesOutObject, ErrorRulesOutMembers}
use Rattle.bson_text.specs.declared.traversal_error.TraversalError.{TraversalError}
use Rattle.bson_text.specs.declared.traversal_error.TraversalError.TheVariants as failure

-- ---- a failure

pub denied : {P U M Q V N : Type 0} (e : TraversalError) → (P → Q) → (U → V) → (U → M → N) → ErrorRulesOut e P U M → ErrorRulesOut e Q V N
denied failure.OutOfMemory k f g h = h
denied failure.DuplicateKey k f g h = f h
denied failure.GaveUp k f g h = k h
denied failure.Syntax k f g h = (f h.0, g h.0 h.1)
denied (failure.Fault place) k f g h = (f h.0, g h.0 h.1)

-- what is read in a mode has a text in that mode
pub number_written : (D : Doubles) (n : Num) (x : Scalar) → number_read_in D n ≡ Ok x → writable_scalar_in D x ≡ true
number_written D n x read = (scalar_form D (tree.number n) x (scalar_from D (tree.number n) x read)).0

pub wrapper_written : (D : Doubles) (k : List ℕ) (w : Wrapper) (d : Data) (x : Scalar) → wrapper_of k ≡ Some w
    → wrapper_read_in D w d ≡ Ok x → writable_scalar_in D x ≡ true
wrapper_written D k w d x named read =
    let t = object (member k d no_members) in
    (scalar_form D t x (scalar_from D t x (subst (λ o. optional_wrapper_read_in D o d ≡ Ok x) (sym named) read))).0

pub none_lacks : {X : Type 0} (o : Option (X × List Token)) (Is : X → List Token → Type 0) → o ≡ None → IsNotParsed o Is
none_lacks o Is none x r is h = cc

-- ---- parts that were parsed

pub mapped_parse : {A B : Type 0} (f : A → B) (o : Option (A × List Token)) (b : B) (r : List Token)
    → parse_map f o ≡ Some (b, r) → (a : A) × (o ≡ Some (a, r)) × (b ≡ f a)
mapped_parse f None b r h = cc
mapped_parse {A} {B} f (Some (a, s)) b r h =
    let same : (f a, s) ≡ (b, r) = same_Some {A = B × List Token} (f a, s) (b, r) h in
    (a, ap (λ p. Some (a, p.1)) same, sym (ap (λ p. p.0) same))

pub then_parsed : {A B C : Type 0} (f : A → B → C) (more : Parse B) (o : Option (A × List Token)) (c : C) (r : List Token)
    → option_and_then (λ q. parse_map (f q.0) (more q.1)) o ≡ Some (c, r)
    → (a : A) × (s : List Token) × (b : B) × (o ≡ Some (a, s)) × (more s ≡ Some (b, r)) × (c ≡ f a b)
then_parsed f more None c r h = cc
then_parsed f more (Some (a, s)) c r h = let g = mapped_parse (f a) (more s) c r h in (a, s, g.0, refl, g.1, g.2)

pub split_kept : {A B C : Type 0} (f : A → B → C) (x : Option A) (y : Option B) (c : C)
    → option_and_then (λ a. option_map (f a) y) x ≡ Some c
    → (a : A) × (b : B) × (x ≡ Some a) × (y ≡ Some b) × (c ≡ f a b)
split_kept f None y c h = cc
split_kept f (Some a) None c h = cc
split_kept f (Some a) (Some b) c h = (a, b, refl, refl, sym (same_Some (f a b) c h))

pub split_read : {A B C : Type 0} (f : A → B → C) (x : Result A Fault) (y : Result B Fault) (c : C)
    → (x >>= λ a. y >>= λ b. Ok (f a b)) ≡ Ok c → (a : A) × (b : B) × (x ≡ Ok a) × (y ≡ Ok b) × (c ≡ f a b)
split_read f (Err e) y c h = cc
split_read f (Ok a) (Err e) c h = cc
split_read f (Ok a) (Ok b) c h = (a, b, refl, refl, cc)

pub was_read : {A C : Type 0} (f : A → C) (x : Result A Fault) (c : C) → (x >>= λ a. Ok (f a)) ≡ Ok c
    → (a : A) × (x ≡ Ok a)
was_read f (Err e) c h = cc
was_read f (Ok a) c h = (a, refl)

pub mapped : {A B : Type 0} (f : A → B) (x : Option A) (b : B) → option_map f x ≡ Some b → (a : A) × (x ≡ Some a) × (b ≡ f a)
mapped f None b h = cc
mapped f (Some a) b h = (a, refl, sym (same_Some (f a) b h))

-- ---- keys

pub later_apart : (k : List ℕ) (ks : List (List ℕ)) → AreDistinct (k ∷ ks) → AreDistinct ks
later_apart k ks h = λ i j d less within e. h (suc i) (suc j) d (omega (arith, less)) (omega (arith, within)) e

pub later_ascend : (k : List ℕ) (ks : List (List ℕ)) → KeysAscendFrom None (k ∷ ks) → KeysAscendFrom None ks
later_ascend k [] h = tt
later_ascend k (l ∷ ks) h = (tt, h.1.1)

abbrev pub Once : json.Members → Type 0
Once ms = HasUniqueKeys (json.object ms)

once_behind : (k : List ℕ) (j : json.Json) (ms : json.Members) → Once (json.member k j ms) → Once ms
once_behind k j ms u = (later_apart k (keys ms) u.0, u.1.1)

-- ---- arrays

module _ (D : Doubles) where
  pub item_means : (j : json.Json) (js : json.Items) → ItemsAreMeaningful D (json.item j js) → IsMeaningful D j × ItemsAreMeaningful D js
  item_means j js (free, ts, vs, is, means) =
      let a = split_kept tree.item (tree_of_json j) (items_of_json js) ts is in
      let m = subst (λ t. reads_items_in_order D t ≡ Ok vs) a.4 means in
      let b = split_read model.value (reads_tree_in_order D a.0) (reads_items_in_order D a.1) vs m in
      ((free.0, a.0, b.0, a.2, b.2), (free.1, a.1, b.1, a.3, b.3))

  none_of : (o : Option Wrapper) → is_some o ≡ false → o ≡ None
  none_of None h = refl
  none_of (Some w) h = cc

  pub member_means : (b : Bool) (k : List ℕ) (j : json.Json) (ms : json.Members) → MembersAreMeaningful D b (json.member k j ms)
      → IsMeaningful D j × MembersAreMeaningful D b ms × (b ≡ true → wrapper_of k ≡ None)
  member_means b k j ms (free, ts, ps, is, means, wrapped) =
      let a = split_kept (member k) (tree_of_json j) (members_as_given ms) ts is in
      let m = subst (λ t. reads_members_in_order D t ≡ Ok ps) a.4 means in
      let c = split_read (pair k) (reads_tree_in_order D a.0) (reads_members_in_order D a.1) ps m in
      let w : b ≡ true → has_wrapper (member k a.0 a.1) ≡ false = λ yes. subst (λ t. has_wrapper t ≡ false) a.4 (wrapped yes) in (
        (free.0, a.0, c.0, a.2, c.2),
        (free.1, a.1, c.1, a.3, c.3, λ yes. (or_parts (is_some (wrapper_of k)) (has_wrapper a.1) (w yes)).1),
        λ yes. none_of (wrapper_of k) (or_parts (is_some (wrapper_of k)) (has_wrapper a.1) (w yes)).0,
      )

  -- no key follows a value
  pub no_key_behind : (p : Parse json.Json) (n : ℕ) (k : List ℕ) (ts r : List Token) (j : json.Json) → p ts ≡ Some (j, r)
      → read_key r ≡ None → members_step p (members p n) (Some k) ts ≡ None
  no_key_behind p n k ts r j read none =
      ap (option_and_then (λ q. parse_map (json.member k q.0) (members p n q.1))) read
      ∙ ap (parse_map (json.member k j)) (members_no_key p n r none)

  -- the keys that were read
  pub keys_kept : (js : json.Members) (ts : Members) (ps : Pairs) → members_as_given js ≡ Some ts
      → reads_members_in_order D ts ≡ Ok ps → keys js ≡ keys_of ps
  keys_kept json.no_members no_members model.no_pairs is means = refl
  keys_kept json.no_members no_members (pair k v ps) is means = cc
  keys_kept json.no_members (member k d ts) ps is means = cc
  keys_kept (json.member k j js) ts ps is means =
      let a = split_kept (member k) (tree_of_json j) (members_as_given js) ts is in
      let m = subst (λ t. reads_members_in_order D t ≡ Ok ps) a.4 means in
      let c = split_read (pair k) (reads_tree_in_order D a.0) (reads_members_in_order D a.1) ps m in
      ap (λ x. k ∷ x) (keys_kept js a.1 c.1 a.3 c.3) ∙ sym (ap keys_of c.4)

  -- the keys of the members to the end
  pub end_keys : {S : Type 0} (wrote_value : S → List ℕ → Value → S → Type 0) (wrote_key : S → List ℕ → S → Type 0) (b : Bool)
      (whole : Option (json.Members × List Token)) (s : List Token) (ks : List Key) (mark now : S)
      → ToGo D wrote_value wrote_key b whole (Some (json.no_members, s)) ks mark now
      → (all : json.Members) × (whole ≡ Some (all, s)) × (keys all ≡ texts ks)
  end_keys wrote_value wrote_key b whole s ks mark now go =
      let g = go json.no_members s no_members model.no_pairs now refl refl refl (λ is. refl) refl in
      (g.0, g.3, keys_kept g.0 g.1 g.2 g.4 g.5 ∙ g.7 ∙ append_none (texts ks))

module _ (D : Doubles) (L S : Type 0) where
  -- ---- elements

  abbrev pub ItemsStill : Option (json.Items × List Token) → Option (json.Items × List Token) → Type 0
  ItemsStill whole here = (e : TraversalError) (js : json.Items) (r : List Token) → whole ≡ Some (js, r) → ErrorRulesOutItemsClaim D L S e js
      → (ks : json.Items) × (here ≡ Some (ks, r)) × ErrorRulesOutItemsClaim D L S e ks

  pub items_still : (whole : Option (json.Items × List Token)) → ItemsStill whole whole
  items_still whole e js r is d = (js, is, d)

  pub items_stopped : (e : TraversalError) (whole here : Option (json.Items × List Token)) → ItemsStill whole here
      → ErrorRulesOutItems D L S e here → ErrorRulesOutItems D L S e whole
  items_stopped e whole here still nothing js r is d = let g = still e js r is d in nothing g.0 r g.1 g.2

  pub item_still : (whole : Option (json.Items × List Token)) (p : Parse json.Json) (n : ℕ) (ts r : List Token)
      (j : json.Json) → 0 < n → after_end_array ts ≡ None → p ts ≡ Some (j, r) → ItemsStill whole (items p n ts)
      → ItemsStill whole (items p (n - 1) r)
  item_still whole p n ts r j left going read still e js rest is d =
      let g = still e js rest is d in
      let more = mapped_parse (json.item j) (items p (n - 1) r) g.0 rest (sym (items_more p n ts r j left going read) ∙ g.1) in
      let ks = more.0 in (
        ks,
        more.1,
        denied e (λ p. (p.0, p.1.1)) (λ u. u.1) (λ u m. (item_means D j ks m).1) (subst (ErrorRulesOutItemsClaim D L S e) more.2 g.2),
      )

  pub item_stopped : (e : TraversalError) (p : Parse json.Json) (n : ℕ) (ts : List Token) → after_end_array ts ≡ None
      → ErrorRulesOutValue D L S e (p ts) → ErrorRulesOutItems D L S e (items p n ts)
  unfolding items
  item_stopped e p zero ts going nothing js r is d = cc
  item_stopped e p (suc n) ts going nothing js r is d =
      let mark : option_and_then (λ q. parse_map (json.item q.0) (items p n q.1)) (p ts) ≡ Some (js, r) =
      sym (ap (items_step p (items p n) ts) going) ∙ is in
      let g = then_parsed json.item (items p n) (p ts) js r mark in
      let j = g.0 in
      let ks = g.2 in
      nothing j g.1 g.3 (denied e (λ p. (p.0, p.1.0)) (λ u. u.0) (λ u m. (item_means D j ks m).0)
      (subst (ErrorRulesOutItemsClaim D L S e) g.5 d))

  pub array_stopped : (e : TraversalError) (o : Option (json.Items × List Token)) → ErrorRulesOutItems D L S e o
      → ErrorRulesOutValue D L S e (parse_map json.array o)
  array_stopped e o nothing j r is d =
      let g = mapped_parse json.array o j r is in
      let js = g.0 in
      nothing js r g.1 (denied e (λ p. p) (λ u. u) (λ u (free, t, v, kept_is, means).
      let a = mapped array (items_of_json js) t kept_is in
      let b = was_read model.array (reads_items_in_order D a.0) v (subst (λ x. reads_tree_in_order D x ≡ Ok v) a.2 means) in
      (free, a.0, b.0, a.1, b.1)) (subst (ErrorRulesOutValueClaim D L S e) g.2 d))

  pub object_stopped : (e : TraversalError) (o : Option (json.Members × List Token)) → ErrorRulesOutObject D L S e o
      → ErrorRulesOutValue D L S e (parse_map json.object o)
  object_stopped e o nothing j r is d =
      let g = mapped_parse json.object o j r is in
      nothing g.0 r g.1 (subst (ErrorRulesOutValueClaim D L S e) g.2 d)

  -- ---- members

  abbrev pub MembersStill : Bool → Option (json.Members × List Token) → Option (json.Members × List Token) → Type 0
  MembersStill b whole here = (e : TraversalError) (ms : json.Members) (r : List Token) → whole ≡ Some (ms, r) → ErrorRulesOutMembersClaim D L S e b ms
      → (ns : json.Members) × (here ≡ Some (ns, r)) × ErrorRulesOutMembersClaim D L S e b ns

  pub members_still : (b : Bool) (whole : Option (json.Members × List Token)) → MembersStill b whole whole
  members_still b whole e ms r is d = (ms, is, d)

  pub members_stopped : (e : TraversalError) (b : Bool) (whole here : Option (json.Members × List Token)) → MembersStill b whole here
      → ErrorRulesOutMembers D L S e b here → ErrorRulesOutMembers D L S e b whole
  members_stopped e b whole here still nothing ms r is d = let g = still e ms r is d in nothing g.0 r g.1 g.2

  pub member_still : (b : Bool) (whole : Option (json.Members × List Token)) (p : Parse json.Json) (n : ℕ) (k : List ℕ)
      (ts r s : List Token) (next : Option (List ℕ)) (j : json.Json) → 0 < n → p ts ≡ Some (j, r)
      → read_key r ≡ Some (next, s) → MembersStill b whole (members_step p (members p n) (Some k) ts)
      → MembersStill b whole (members_step p (members p (n - 1)) next s)
  member_still b whole p n k ts r s next j left read key still e ms rest is d =
      let g = still e ms rest is d in
      let here = members_step p (members p (n - 1)) next s in
      let more = mapped_parse (json.member k j) here g.0 rest (sym (step_more p n k ts r s next j here left read key refl) ∙ g.1) in
      let ns = more.0 in (
        ns,
        more.1,
        denied e (λ p. (p.0, (λ sorts_keys. later_ascend k (keys ns) (p.1.0 sorts_keys), p.1.1.1))) (once_behind k j ns)
            (λ u m. (member_means D b k j ns m).1) (subst (ErrorRulesOutMembersClaim D L S e b) more.2 g.2),
      )

  -- the value at a key stops
  pub member_stopped : (e : TraversalError) (b : Bool) (p : Parse json.Json) (more : Parse json.Members) (k : List ℕ)
      (ts : List Token) → ErrorRulesOutValue D L S e (p ts) → ErrorRulesOutMembers D L S e b (members_step p more (Some k) ts)
  member_stopped e b p more k ts nothing ms r is d =
      let g = then_parsed (json.member k) more (p ts) ms r is in
      let j = g.0 in
      let ns = g.2 in
      nothing j g.1 g.3 (denied e (λ p. (p.0, p.1.1.0)) (λ u. u.1.0) (λ u m. (member_means D b k j ns m).0)
      (subst (ErrorRulesOutMembersClaim D L S e b) g.5 d))

  -- a key that no document has
  pub misplaced_wrapper : (b : Bool) (p : Parse json.Json) (more : Parse json.Members) (k : List ℕ) (ts : List Token)
      → (b && is_some (wrapper_of k)) ≡ true → ErrorRulesOutMembers D L S failure.Syntax b (members_step p more (Some k) ts)
  misplaced_wrapper false p more k ts bad ms r is d = cc
  misplaced_wrapper true p more k ts bad ms r is d =
      let g = then_parsed (json.member k) more (p ts) ms r is in
      let m = subst (λ is. MembersAreMeaningful D true is) g.5 d.1 in
      let none = (member_means D true k g.0 g.2 m).2 refl in
      let never : is_some (wrapper_of k) ≡ false = ap is_some none in cc

  pub ended_stopped : (e : TraversalError) (b : Bool) (whole : Option (json.Members × List Token)) (all : json.Members)
      (s : List Token) (ks : List (List ℕ)) → whole ≡ Some (all, s) → keys all ≡ ks
      → IsWriterErrorIf (AreDistinct ks) ((S → KeysAscendFrom None ks) → L) e → ErrorRulesOutMembers D L S e b whole
  ended_stopped e b whole all s ks read are =
      let same : (ms : json.Members) (r : List Token) → whole ≡ Some (ms, r) → keys ms ≡ ks = λ ms r is.
      ap (λ p. keys p.0) (sym (same_Some {A = json.Members × List Token} (all, s) (ms, r) (sym read ∙ is))) ∙ are in
      lacks_by_writer e whole _ _ _ (λ ms r is once. subst AreDistinct (same ms r is) once.0)
      (λ ms r is give d. d.0 (give (λ sorts_keys. subst (KeysAscendFrom None) (same ms r is) (d.1.0 sorts_keys))))
