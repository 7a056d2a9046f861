-- A tree that with its order forgotten means something means something in order.
use Rattle.std.proofs.Common.{◌≡◌, ◌≤◌, List, ℕ, Bool, true, false, cond, ◌&&◌, Option, Some, None, Result, Ok, Err}
use Rattle.std.proofs.Common.{Ordering, Less, Equal, Greater, refl, sym, ◌∙◌, subst, codes, arith}
use Rattle.std.specs.Cmp.Lexicographic.{slice_cmp}
use Rattle.std.specs.Ordering.{nat_cmp, match_ordering}
use Rattle.std.specs.Str.{bytes_eq}
use Rattle.std.proofs.lemmas.Bool.{and_parts, or_parts}
use Rattle.serde_json.specs.Data.{Data, Items, no_items, item, Members, no_members, member, put}
use Rattle.serde_json.specs.Data as tree
use Rattle.serde_json.specs.Find.{as_str}
use Rattle.bson_scalar.specs.Faults.{Fault, wrong_shape, or_wrong_shape, ◌>>=◌}
use Rattle.bson_scalar.specs.Table.{has_wrapper}
use Rattle.bson_scalar.specs.Scalar.{null, boolean, text}
use Rattle.bson_scalar.specs.declared.form.Doubles.{Doubles}
use Rattle.bson_model.specs.Reading.{reads_tree_in, reads_items_in, reads_members_in, reads_wrapper_in, reads_scope_in}
use Rattle.bson_model.specs.Reading.{code_with_scope_read, code_value}
use Rattle.bson_model.specs.Value.{Value, scalar, array, document, Values, no_values, value, Pairs, no_pairs, pair}
use Rattle.bson_model.proofs.Offered.{fault_bind_ok}
use Rattle.bson_model.specs.OrderedTrees.{tree_sorted_by_key, items_sorted_by_key, members_sorted_by_key, has_key, KeysDiffer, IsTreeInOrder}
use Rattle.bson_model.specs.OrderedTrees.{ItemsAreTreesInOrder, MembersAreTreesInOrder}
use Rattle.bson_model.specs.OrderedReading.{reads_tree_in_order, reads_items_in_order, reads_members_in_order, reads_wrapper_in_order}
use Rattle.bson_model.specs.OrderedReading.{reads_scope_in_order}
use Rattle.bson_model.proofs.OptionalValues.{same_bytes}
use Rattle.bson_model.proofs.SortedKeys.{same_wrapper, same_key, not_equal, size, same_size}

abbrev cmp : List ℕ → List ℕ → Ordering
cmp k l = slice_cmp nat_cmp k l

module _ (D : Doubles) where
  -- ---- documents: what is read of an object is read of each of its members

  abbrev Read : Data → Type 0
  Read d = (v : Value) × (reads_tree_in D d ≡ Ok v)

  abbrev ReadAll : Members → Type 0
  ReadAll ms = (ps : Pairs) × (reads_members_in D ms ≡ Ok ps)

  first_read : (k : List ℕ) (d : Data) (ms : Members) (ps : Pairs) → reads_members_in D (member k d ms) ≡ Ok ps
      → Read d × ReadAll ms
  first_read k d ms ps h =
      let b = fault_bind_ok (reads_tree_in D d) _ ps h in
      let c = fault_bind_ok (reads_members_in D ms) _ ps b.2 in ((b.0, b.1), (c.0, c.1))

  more_read : (k : List ℕ) (d : Data) (ms : Members) → Read d → ReadAll ms → ReadAll (member k d ms)
  more_read k d ms a b = (pair k a.0 b.0, rw (a.1, b.1) refl)

  parts_at : (o : Ordering) (k l : List ℕ) (d e : Data) (ms : Members) (ps : Pairs) → cmp k l ≡ o
      → bytes_eq k l ≡ false → ((qs : Pairs) → reads_members_in D (put k d ms) ≡ Ok qs → Read d × ReadAll ms)
      → reads_members_in D (match_ordering o (member k d (member l e ms)) (member l d ms) (member l e (put k d ms)))
      ≡ Ok ps
      → Read d × ReadAll (member l e ms)
  parts_at Less k l d e ms ps c differ is h = first_read k d (member l e ms) ps h
  parts_at Equal k l d e ms ps c differ is h = not_equal k l c differ
  parts_at Greater k l d e ms ps c differ is h =
      let a = first_read l e (put k d ms) ps h in
      let b = is a.1.0 a.1.1 in
      (b.0, more_read l e ms a.0 b.1)

  put_parts : (k : List ℕ) (d : Data) (ms : Members) (ps : Pairs) → has_key k ms ≡ false
      → reads_members_in D (put k d ms) ≡ Ok ps → Read d × ReadAll ms
  put_parts k d no_members ps new h = first_read k d no_members ps h
  put_parts k d (member l e ms) ps new h =
      let p = or_parts (bytes_eq k l) (has_key k ms) new in
      parts_at (cmp k l) k l d e ms ps refl p.0 (λ qs g. put_parts k d ms qs p.1 g) h

  -- ---- wrappers: one key, or the two of code with its scope

  few : (ms : Members) (w : Value) → reads_wrapper_in D ms ≡ Ok w → size ms ≤ 2
  few no_members w h = cc
  few (member k d no_members) w h = omega arith
  few (member k d (member l e no_members)) w h = omega arith
  few (member k d (member l e (member m f ms))) w h = cc

  code_keys : (b : Bool) (r : Result Value Fault) (v : Value) → cond b r (Err wrong_shape) ≡ Ok v → b ≡ true
  code_keys true r v h = refl
  code_keys false r v h = cc

  is_code : (k l : List ℕ) (r : Result Value Fault) (v : Value)
      → cond (bytes_eq k (codes "$code") && bytes_eq l (codes "$scope")) r (Err wrong_shape) ≡ Ok v
      → (k ≡ codes "$code") × (l ≡ codes "$scope")
  is_code k l r v h =
      let both = and_parts (bytes_eq k (codes "$code")) (bytes_eq l (codes "$scope")) (code_keys _ r v h) in
      (same_bytes k (codes "$code") both.0, same_bytes l (codes "$scope") both.1)

  abbrev Scopes : Data → Type 0
  Scopes e = (ps : Option Pairs) → reads_scope_in D (tree_sorted_by_key e) ≡ Ok ps
      → (qs : Option Pairs) × (reads_scope_in_order D e ≡ Ok qs)

  remade : (b : Bool) (o : Option (List ℕ)) (r q : Result (Option Pairs) Fault) (w : Value)
      → ((ps : Option Pairs) → r ≡ Ok ps → (qs : Option Pairs) × (q ≡ Ok qs))
      → cond b (or_wrong_shape o >>= λ s. r >>= λ ps. Ok (code_value s ps)) (Err wrong_shape) ≡ Ok w
      → (v : Value) × (cond b (or_wrong_shape o >>= λ s. q >>= λ ps. Ok (code_value s ps)) (Err wrong_shape) ≡ Ok v)
  remade false o r q w f h = cc
  remade true None r q w f h = cc
  remade true (Some s) (Err e) q w f h = cc
  remade true (Some s) (Ok ps) q w f h = let m = f ps refl in (code_value s m.0, rw m.1 refl)

  chosen : (b : Bool) (x y : Result Value Fault) (v : Value) → b ≡ true → x ≡ Ok v → cond b x y ≡ Ok v
  chosen true x y v e h = h
  chosen false x y v e h = cc

  two_at : (o : Ordering) (k l : List ℕ) (d e : Data) (w : Value) → cmp k l ≡ o → bytes_eq k l ≡ false → Scopes d
      → Scopes e
      → reads_wrapper_in D (match_ordering o (member k (tree_sorted_by_key d) (member l (tree_sorted_by_key e) no_members))
      (member l (tree_sorted_by_key d) no_members) (member l (tree_sorted_by_key e) (member k (tree_sorted_by_key d) no_members)))
      ≡ Ok w
      → (v : Value)
      × (cond (bytes_eq k (codes "$scope")) (code_with_scope_read l (tree_sorted_by_key e) k (reads_scope_in_order D d))
      (code_with_scope_read k (tree_sorted_by_key d) l (reads_scope_in_order D e)) ≡ Ok v)
  two_at Less k l d e w c differ f g h =
      let keys = is_code k l _ w h in
      let other : bytes_eq k (codes "$scope") ≡ false =
      subst (λ q. bytes_eq q (codes "$scope") ≡ false) (sym keys.0) refl in
      let m = remade (bytes_eq k (codes "$code") && bytes_eq l (codes "$scope")) (as_str (tree_sorted_by_key d))
      (reads_scope_in D (tree_sorted_by_key e)) (reads_scope_in_order D e) w g h in
      (m.0, rw other m.1)
  two_at Equal k l d e w c differ f g h = not_equal k l c differ
  two_at Greater k l d e w c differ f g h =
      let keys = is_code l k _ w h in
      let same : bytes_eq k (codes "$scope") ≡ true =
      subst (λ q. bytes_eq q (codes "$scope") ≡ true) (sym keys.1) refl in
      let m = remade (bytes_eq l (codes "$code") && bytes_eq k (codes "$scope")) (as_str (tree_sorted_by_key e))
      (reads_scope_in D (tree_sorted_by_key d)) (reads_scope_in_order D d) w f h in
      (m.0, chosen (bytes_eq k (codes "$scope")) _ _ m.0 same m.1)

  -- ---- the whole tree

  object_read : (b : Bool) (ms : Members) (w : Value)
      → (reads_wrapper_in D (members_sorted_by_key ms) ≡ Ok w → (v : Value) × (reads_wrapper_in_order D ms ≡ Ok v))
      → ((ps : Pairs) → reads_members_in D (members_sorted_by_key ms) ≡ Ok ps
      → (qs : Pairs) × (reads_members_in_order D ms ≡ Ok qs))
      → cond b (reads_wrapper_in D (members_sorted_by_key ms))
      (reads_members_in D (members_sorted_by_key ms) >>= λ ps. Ok (document ps))
      ≡ Ok w
      → (v : Value) × (cond b (reads_wrapper_in_order D ms) (reads_members_in_order D ms >>= λ ps. Ok (document ps)) ≡ Ok v)
  object_read true ms w f g h = f h
  object_read false ms w f g h =
      let b = fault_bind_ok (reads_members_in D (members_sorted_by_key ms)) _ w h in
      let m = g b.0 b.1 in (document m.0, rw m.1 refl)

  mutual
    pub read_in_order : (t : Data) (w : Value) → IsTreeInOrder t → reads_tree_in D (tree_sorted_by_key t) ≡ Ok w
        → (v : Value) × (reads_tree_in_order D t ≡ Ok v)
    read_in_order tree.null w is h = (scalar null, refl)
    read_in_order (tree.boolean b) w is h = (scalar (boolean b), refl)
    read_in_order (tree.number n) w is h = (w, h)
    read_in_order (tree.string s) w is h = (scalar (text s), refl)
    read_in_order (tree.array ds) w is h =
        let b = fault_bind_ok (reads_items_in D (items_sorted_by_key ds)) _ w h in
        let m = items_read ds b.0 is b.1 in (array m.0, rw m.1 refl)
    read_in_order (tree.object ms) w is h =
        object_read (has_wrapper ms) ms w (λ g. wrapper_read ms w is.0 is.1 g)
        (λ ps g. members_read ms ps is.0 is.1 g)
        (subst (λ b. cond b (reads_wrapper_in D (members_sorted_by_key ms))
        (reads_members_in D (members_sorted_by_key ms) >>= λ ps. Ok (document ps)) ≡ Ok w) (same_wrapper ms) h)

    items_read : (ds : Items) (ws : Values) → ItemsAreTreesInOrder ds → reads_items_in D (items_sorted_by_key ds) ≡ Ok ws
        → (vs : Values) × (reads_items_in_order D ds ≡ Ok vs)
    items_read no_items ws is h = (no_values, refl)
    items_read (item d ds) ws is h =
        let b = fault_bind_ok (reads_tree_in D (tree_sorted_by_key d)) _ ws h in
        let c = fault_bind_ok (reads_items_in D (items_sorted_by_key ds)) _ ws b.2 in
        let m = read_in_order d b.0 is.0 b.1 in
        let n = items_read ds c.0 is.1 c.1 in (value m.0 n.0, rw (m.1, n.1) refl)

    members_read : (ms : Members) (ps : Pairs) → KeysDiffer ms → MembersAreTreesInOrder ms
        → reads_members_in D (members_sorted_by_key ms) ≡ Ok ps → (qs : Pairs) × (reads_members_in_order D ms ≡ Ok qs)
    members_read no_members ps differ is h = (no_pairs, refl)
    members_read (member k d ms) ps differ is h =
        let p = put_parts k (tree_sorted_by_key d) (members_sorted_by_key ms) ps (same_key k ms ∙ differ.0) h in
        let m = read_in_order d p.0.0 is.0 p.0.1 in
        let n = members_read ms p.1.0 differ.1 is.1 p.1.1 in (pair k m.0 n.0, rw (m.1, n.1) refl)

    wrapper_read : (ms : Members) (w : Value) → KeysDiffer ms → MembersAreTreesInOrder ms
        → reads_wrapper_in D (members_sorted_by_key ms) ≡ Ok w → (v : Value) × (reads_wrapper_in_order D ms ≡ Ok v)
    wrapper_read no_members w differ is h = cc
    wrapper_read (member k d no_members) w differ is h = (w, h)
    wrapper_read (member k d (member l e no_members)) w differ is h =
        two_at (cmp k l) k l d e w refl (or_parts (bytes_eq k l) false differ.0).0
        (λ ps g. scope_read d ps is.0 g) (λ ps g. scope_read e ps is.1.0 g) h
    wrapper_read (member k d (member l e (member m f ms))) w differ is h =
        let long = same_size (member k d (member l e (member m f ms))) differ in
        let short = few (members_sorted_by_key (member k d (member l e (member m f ms)))) w h in
        absurd (omega (arith, long, short))

    scope_read : (e : Data) (ps : Option Pairs) → IsTreeInOrder e → reads_scope_in D (tree_sorted_by_key e) ≡ Ok ps
        → (qs : Option Pairs) × (reads_scope_in_order D e ≡ Ok qs)
    scope_read tree.null ps is h = (None, refl)
    scope_read (tree.boolean b) ps is h = cc
    scope_read (tree.number n) ps is h = cc
    scope_read (tree.string s) ps is h = cc
    scope_read (tree.array ds) ps is h = cc
    scope_read (tree.object ms) ps is h =
        let b = fault_bind_ok (reads_members_in D (members_sorted_by_key ms)) _ ps h in
        let m = members_read ms b.0 is.0 is.1 b.1 in (Some m.0, rw m.1 refl)
