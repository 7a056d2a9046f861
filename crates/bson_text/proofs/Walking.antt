-- What is left to read and write, and what the whole is once it is done.
--
-- Of an array or an object that is open a relation says what the whole will be, whatever the rest turns out to be. So each
-- turn adds one item or member before that rest, and nothing is ever added after what was read.
use Rattle.std.proofs.Common.{◌≡◌, ℕ, ◌+◌, ◌-◌, ◌<◌, ◌≤◌, List, [], ◌∷◌, ◌++◌, length, Option, Some, None}
use Rattle.std.proofs.Common.{Ok, Bool, true, false, option_map, refl, ap, ◌∙◌}
use Rattle.json.specs.Json as json
use Rattle.json.specs.Json.{Parse, parse_map, after_end_array, read_key, items, members, members_step, value}
use Rattle.json.specs.Token as token
use Rattle.json.specs.Token.{Token}
use Rattle.json.proofs.Grammar.{items_end, items_more, value-begin_array, value-begin_object}
use Rattle.serde_json.specs.Data.{array, object, Items, no_items, item, Members, no_members, member}
use Rattle.serde_json.specs.Read.{converted}
use Rattle.bson_scalar.specs.Table.{wrapper_of, has_wrapper}
use Rattle.bson_scalar.specs.declared.form.Doubles.{Doubles}
use Rattle.bson_model.specs.Value as model
use Rattle.bson_model.specs.Value.{Value, Values, Pairs}
use Rattle.bson_model.specs.OrderedTrees.{tree_of_json, items_of_json}
use Rattle.bson_model.specs.OrderedReading.{reads_items_in_order, reads_members_in_order}
use Rattle.bson_tokens.proofs.Offered.{was_read}
use Rattle.bson_text.specs.TraversalResults.{ItemsWritten, PairsWritten, keys_of, each_key_once, ReadsTree, ReadsItems, ReadsObject}
use Rattle.bson_text.specs.TraversalResults.{ReadsMembers, tree_members_in_order, members_after_brace, members_after_key}
use Rattle.bson_text.specs.ErrorDenials.{members_as_given}
use Rattle.bson_text.proofs.Members.{insert_each, kept_each, free_each, reads_each}
use Rattle.bson_text.proofs.Objects.{Key, texts, append_none, texts_more, step_more, begins, object_of, array_of}

module _ {S : Type 0} (D : Doubles) (wrote_value : S → List ℕ → Value → S → Type 0) where
  -- ---- arrays

  module _ (name : ℕ → List ℕ) where
    abbrev pub ItemsToGo : Option (json.Items × List Token) → Option (json.Items × List Token) → ℕ → S → S → Type 0
    ItemsToGo whole here n mark now =
        (js : json.Items) (r : List Token) (ts : Items) (vs : Values) (end : S) → here ≡ Some (js, r)
        → items_of_json js ≡ Some ts → reads_items_in_order D ts ≡ Ok vs → ItemsWritten wrote_value name n vs now end
        → (all : json.Items) × (read : Items) × (ws : Values) × (whole ≡ Some (all, r)) × (items_of_json all ≡ Some read)
        × (reads_items_in_order D read ≡ Ok ws) × ItemsWritten wrote_value name 0 ws mark end

    pub items_begun : (whole : Option (json.Items × List Token)) (mark : S) → ItemsToGo whole whole 0 mark mark
    items_begun whole mark js r ts vs end here is means written = (js, ts, vs, here, is, means, written)

    pub item_passed : (whole : Option (json.Items × List Token)) (p : Parse json.Json) (n place : ℕ) (ts r : List Token)
        (mark now later : S) → 0 < n → after_end_array ts ≡ None
        → ReadsTree D (converted tree_of_json (p ts)) r (λ v. wrote_value now (name place) v later)
        → ItemsToGo whole (items p n ts) place mark now → ItemsToGo whole (items p (n - 1) r) (place + 1) mark later
    item_passed whole p n place ts r mark now later left going (t, v, read, means, put) go js rest ds vs end here is all
        written =
        let j = was_read tree_of_json (p ts) t r read in
        let more : items p n ts ≡ Some (json.item j.0 js, rest) =
        items_more p n ts r j.0 left going j.1 ∙ ap (parse_map (json.item j.0)) here in
        go (json.item j.0 js) rest (item t ds) (model.value v vs) end more (rw (j.2, is) refl) (rw (means, all) refl)
        (later, put, written)

    pub items_passed : (whole : Option (json.Items × List Token)) (p : Parse json.Json) (n place : ℕ) (ts r : List Token)
        (mark now : S) (Hold : Values → Type 0) → length ts ≤ n → after_end_array ts ≡ Some r
        → ItemsToGo whole (items p n ts) place mark now
        → ((vs : Values) → ItemsWritten wrote_value name 0 vs mark now → Hold vs)
        → ReadsItems D (converted items_of_json whole) r Hold
    items_passed whole p n place ts r mark now Hold enough closed go holds =
        let g = go json.no_items r no_items model.no_values now (items_end p n ts r enough closed) refl refl refl in (
          g.1,
          g.2,
          ap (converted items_of_json) g.3 ∙ ap (option_map (λ d. (d, r))) g.4,
          g.5,
          holds g.2 g.6,
        )

  -- ---- objects

  module _ (wrote_key : S → List ℕ → S → Type 0) where
    -- the keys are those that were read
    abbrev pub ToGo : Bool → Option (json.Members × List Token) → Option (json.Members × List Token) → List Key → S → S
        → Type 0
    ToGo b whole here keys mark now =
        (js : json.Members) (r : List Token) (ts : Members) (ps : Pairs) (end : S) → here ≡ Some (js, r)
        → members_as_given js ≡ Some ts → reads_members_in_order D ts ≡ Ok ps → (b ≡ true → has_wrapper ts ≡ false)
        → PairsWritten wrote_value wrote_key ps now end
        → (all : json.Members) × (read : Members) × (qs : Pairs) × (whole ≡ Some (all, r))
        × (members_as_given all ≡ Some read) × (reads_members_in_order D read ≡ Ok qs) × (b ≡ true → has_wrapper read ≡ false)
        × (keys_of qs ≡ texts keys ++ keys_of ps)
        × PairsWritten wrote_value wrote_key qs mark end

    pub members_begun : (b : Bool) (whole : Option (json.Members × List Token)) (mark : S)
        → ToGo b whole whole [] mark mark
    members_begun b whole mark js r ts ps end here is means wrapped written =
        (js, ts, ps, here, is, means, wrapped, refl, written)

    pub member_passed : (b : Bool) (whole : Option (json.Members × List Token)) (p : Parse json.Json) (n : ℕ) (k : Key)
        (ts r s : List Token) (next : Option (List ℕ)) (keys : List Key) (mark now named later : S) → 0 < n
        → (b ≡ true → wrapper_of k.now ≡ None) → wrote_key now k.now named
        → ReadsTree D (converted tree_of_json (p ts)) r (λ v. wrote_value named k.now v later) → read_key r ≡ Some (next, s)
        → ToGo b whole (members_step p (members p n) (Some k.now) ts) keys mark now
        → ToGo b whole (members_step p (members p (n - 1)) next s) (keys ++ k ∷ []) mark later
    member_passed b whole p n k ts r s next keys mark now named later left ordinary name (t, v, read, means, put) key go
        js rest ds ps end here is all wrapped written =
        let j = was_read tree_of_json (p ts) t r read in
        let more : members_step p (members p n) (Some k.now) ts ≡ Some (json.member k.now j.0 js, rest) =
        step_more p n k.now ts r s next j.0 _ left j.1 key here in
        let g = go (json.member k.now j.0 js) rest (member k.now t ds) (model.pair k.now v ps) end more
        (rw (j.2, is) refl) (rw (means, all) refl) (λ is. rw (ordinary is) (wrapped is))
        (named, later, name, put, written) in (
          g.0,
          g.1,
          g.2,
          g.3,
          g.4,
          g.5,
          g.6,
          g.7 ∙ texts_more keys k (keys_of ps),
          g.8,
        )

    pub members_written : (b : Bool) (whole : Option (json.Members × List Token)) (s : List Token) (keys : List Key)
        (mark now : S) → ToGo b whole (Some (json.no_members, s)) keys mark now
        → (ps : Pairs) × PairsWritten wrote_value wrote_key ps mark now × (keys_of ps ≡ texts keys)
    members_written b whole s keys mark now go =
        let g = go json.no_members s no_members model.no_pairs now refl refl refl (λ is. refl) refl in
        (g.2, g.8, g.7 ∙ append_none (texts keys))

    pub members_passed : (b : Bool) (whole : Option (json.Members × List Token)) (s : List Token) (keys : List Key)
        (mark now : S) (Hold : Pairs → Type 0) → ToGo b whole (Some (json.no_members, s)) keys mark now
        → ((ps : Pairs) → PairsWritten wrote_value wrote_key ps mark now → keys_of ps ≡ texts keys → Hold (each_key_once ps))
        → ReadsMembers D b (tree_members_in_order whole) s Hold
    members_passed b whole s keys mark now Hold go holds =
        let g = go json.no_members s no_members model.no_pairs now refl refl refl (λ is. refl) refl in (
          insert_each g.1 no_members,
          each_key_once g.2,
          ap tree_members_in_order g.3 ∙ ap (option_map (λ d. (d, s))) (kept_each g.0 g.1 no_members g.4),
          reads_each D g.1 no_members g.2 model.no_pairs g.5 refl,
          λ is. free_each g.1 no_members (g.6 is) refl,
          holds g.2 g.8 (g.7 ∙ append_none (texts keys)),
        )

-- ---- a whole value

module _ (D : Doubles) where
  pub document_means : (depth : ℕ) (first : Option (List ℕ)) (ts s r : List Token) (Framed : Pairs → Type 0)
      (Wrote : Value → Type 0) → read_key ts ≡ Some (first, s)
      → ((ps : Pairs) → Framed ps → Wrote (model.document ps))
      → ReadsMembers D true (tree_members_in_order (members_after_key depth first s)) r Framed
      → ReadsObject D (tree_members_in_order (members_after_brace depth ts)) r Wrote
  document_means depth first ts s r Framed Wrote key embedded (ms, ps, read, means, free, wrote_document) = (
    ms,
    model.document ps,
    ap tree_members_in_order (begins depth first ts s key) ∙ read,
    rw (free refl, means) refl,
    embedded ps wrote_document,
  )

  pub array_means : (depth : ℕ) (ts s r : List Token) (Wrote : Value → Type 0) → ts ≡ token.begin_array ∷ s → 0 < depth
      → ReadsItems D (converted items_of_json (items (value (depth - 1)) (length s) s)) r (λ vs. Wrote (model.array vs))
      → ReadsTree D (converted tree_of_json (value depth ts)) r Wrote
  array_means depth ts s r Wrote is left (ds, vs, read, means, written) = (
    array ds,
    model.array vs,
    ap (λ x. converted tree_of_json (value depth x)) is ∙ ap (converted tree_of_json) (value-begin_array depth s left)
        ∙ array_of (items (value (depth - 1)) (length s) s) ds r read,
    rw means refl,
    written,
  )

  pub object_means : (depth : ℕ) (ts s r : List Token) (Wrote : Value → Type 0) → ts ≡ token.begin_object ∷ s → 0 < depth
      → ReadsObject D (tree_members_in_order (members_after_brace (depth - 1) s)) r Wrote → ReadsTree D (converted tree_of_json (value depth ts)) r Wrote
  object_means depth ts s r Wrote is left (ms, v, read, means, written) = (
    object ms,
    v,
    ap (λ x. converted tree_of_json (value depth x)) is ∙ ap (converted tree_of_json) (value-begin_object depth s left)
        ∙ object_of (members (value (depth - 1)) (length s) s) ms r read,
    means,
    written,
  )
