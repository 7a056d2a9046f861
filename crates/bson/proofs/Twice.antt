-- Twice the length of a text is room enough for it.
use Rattle.std.proofs.Common.{◌≡◌, ℕ, ◌+◌, ◌*◌, ◌<◌, ◌≤◌, pos, negsuc, codes, Bool, true, false, List, [], ◌∷◌, ◌++◌, length}
use Rattle.std.proofs.Common.{Ok, refl, sym, subst, ap, ◌∙◌, arith, length-append}
use Rattle.std.proofs.lemmas.Fmt.{decimal_nonempty}
use Rattle.json.specs.Print.{print, print_from, separator, ends, token_text, IsNumber}
use Rattle.json.specs.Token.{Token, end_object, key, string}
use Rattle.json.specs.Tree.{room, items_tokens, members_tokens}
use Rattle.json.specs.Word.{after_number}
use Rattle.serde_json.specs.Data.{Num, unsigned, negative, float, Data, Items, no_items, item, Members, no_members, member}
use Rattle.serde_json.specs.Data as tree
use Rattle.bson_scalar.specs.TreeText.{number_text, json_of_items, json_of_members}
use Rattle.bson_types.specs.Regex.{sorted_regex_options}
use Rattle.bson_scalar.specs.Forms.{is_mongodb}
use Rattle.bson_scalar.specs.Ids.{oid_tree, pointer_tree}
use Rattle.bson_scalar.specs.OrderedScalars.{pair_object, writes_scalar_in_order}
use Rattle.bson_scalar.specs.Regexes.{regex_tree}
use Rattle.bson_scalar.specs.Scalar.{Scalar, db_pointer, regex, timestamp}
use Rattle.bson_scalar.specs.Table.{key_of}
use Rattle.bson_scalar.specs.Timestamps.{timestamp_tree}
use Rattle.bson_scalar.specs.TreeParts.{natural, one_key_object}
use Rattle.bson_scalar.specs.Written.{writes_scalar_in}
use Rattle.bson_scalar.specs.declared.wrapper.Wrapper.TheVariants.{DbPointer, RegularExpression, Timestamp}
use Rattle.bson_scalar.specs.Tokens.{tokens_of}
use Rattle.bson_scalar.specs.declared.form.Doubles.{Doubles}
use Rattle.bson_scalar.specs.declared.form.Form.{Form}
use Rattle.bson_scalar.proofs.Offered.{float_is_number, text_is}
use Rattle.bson_model.specs.Normal.{NumbersInRange, ItemsInRange, PairsInRange}
use Rattle.bson_model.specs.Texts.{IsTree, ItemsAreTrees, MembersAreTrees, NumberFits}
use Rattle.bson_model.specs.Value.{Value, scalar, code_scope, array, document, Values, no_values, value, Pairs}
use Rattle.bson_model.specs.Value.{no_pairs, pair}
use Rattle.bson_model.proofs.Offered.{bind_ok, un_ok, has_text_in}
use Rattle.bson_model.specs.OrderedWriting.{writes_value_in_order, writes_items_in_order, writes_pairs_in_order}
use Rattle.bson_model.proofs.OfferedInOrder.{has_no_float, written_to}
use Rattle.bson.specs.OutputCapacity.{value_capacity, values_capacity, pairs_capacity, tree_capacity}
use Rattle.bson.specs.Texts.{IsTextInOrder}
use Rattle.bson.proofs.ScalarRoom.{scalar_room_is}

-- ---- tokens: each has a byte

abbrev AreFull : List Token → Type 0
AreFull [] = Unit {0}
AreFull (t ∷ ts) = (0 < length (token_text t)) × AreFull ts

full_append : (xs ys : List Token) → AreFull xs → AreFull ys → AreFull (xs ++ ys)
full_append [] ys a b = b
full_append (t ∷ ts) ys a b = (a.0, full_append ts ys a.1 b)

room_append : (xs ys : List Token) → room (xs ++ ys) ≡ room xs + room ys
room_append [] ys = omega arith
room_append (t ∷ ts) ys = let rest = room_append ts ys in omega arith

twice : (b : Bool) (ts : List Token) → AreFull ts → room ts ≤ 2 * length (print_from b ts)
unfolding print_from
twice b [] h = omega arith
twice b (t ∷ ts) h =
    let rest = twice (ends t) ts h.1 in
    omega (
      arith,
      h.0,
      rest,
      length-append (separator b t) (token_text t ++ print_from (ends t) ts),
      length-append (token_text t) (print_from (ends t) ts),
    )

-- ---- trees

number_full : (s : List ℕ) → IsNumber s → 0 < length s
unfolding after_number
number_full [] h = cc
number_full (x ∷ s) h = omega arith

num_full : (n : Num) → NumberFits n → 0 < length (number_text n)
num_full (unsigned n) h = decimal_nonempty n h
num_full (negative (pos n)) h = absurd h
num_full (negative (negsuc n)) h = omega arith
num_full (float x) h = number_full _ (float_is_number x h)

key_full : (k : List ℕ) → 0 < length (token_text (key k))
key_full k = omega arith

string_full : (s : List ℕ) → 0 < length (token_text (string s))
string_full s = omega arith

mutual
  tree_full : (d : Data) → IsTree d → AreFull (tokens_of d)
  tree_full tree.null t = (omega arith, tt)
  tree_full (tree.boolean true) t = (omega arith, tt)
  tree_full (tree.boolean false) t = (omega arith, tt)
  tree_full (tree.number n) t = (num_full n t, tt)
  tree_full (tree.string s) t = (string_full s, tt)
  tree_full (tree.array ds) t = (omega arith, items_full ds t)
  tree_full (tree.object ms) t = (omega arith, members_full ms t.1)

  items_full : (ds : Items) → ItemsAreTrees ds → AreFull (items_tokens (json_of_items ds))
  items_full no_items t = (omega arith, tt)
  items_full (item d ds) t =
      full_append (tokens_of d) (items_tokens (json_of_items ds)) (tree_full d t.0) (items_full ds t.1)

  members_full : (ms : Members) → MembersAreTrees ms → AreFull (members_tokens (json_of_members ms))
  members_full no_members t = (omega arith, tt)
  members_full (member k d ms) t = (
    key_full k,
    full_append (tokens_of d) (members_tokens (json_of_members ms)) (tree_full d t.0) (members_full ms t.1),
  )

-- ---- values

-- two keys of a wrapper, the other way round
regex_full : (b : Bool) (p o : List ℕ) → AreFull (tokens_of (regex_tree p o))
    → AreFull (tokens_of (one_key_object (key_of RegularExpression) (pair_object b (codes "options") (tree.string o) (codes "pattern") (tree.string p))))
regex_full true p o h =
    (h.0, (h.1.0, (h.1.1.0, (h.1.1.1.1.1.0, (h.1.1.1.1.1.1.0, (h.1.1.1.0, (h.1.1.1.1.0, (h.1.1.1.1.1.1.1.0, (h.1.1.1.1.1.1.1.1.0, h.1.1.1.1.1.1.1.1.1)))))))))
regex_full false p o h = h

timestamp_full : (b : Bool) (s i : ℕ) → AreFull (tokens_of (timestamp_tree s i))
    → AreFull (tokens_of (one_key_object (key_of Timestamp) (pair_object b (codes "i") (natural i) (codes "t") (natural s))))
timestamp_full true s i h =
    (h.0, (h.1.0, (h.1.1.0, (h.1.1.1.1.1.0, (h.1.1.1.1.1.1.0, (h.1.1.1.0, (h.1.1.1.1.0, (h.1.1.1.1.1.1.1.0, (h.1.1.1.1.1.1.1.1.0, h.1.1.1.1.1.1.1.1.1)))))))))
timestamp_full false s i h = h

pointer_full : (b : Bool) (s id : List ℕ) → AreFull (tokens_of (pointer_tree s id))
    → AreFull (tokens_of (one_key_object (key_of DbPointer) (pair_object b (codes "$id") (oid_tree id) (codes "$ref") (tree.string s))))
pointer_full true s id h =
    (h.0, (h.1.0, (h.1.1.0, (h.1.1.1.1.1.1.1.1.0, (h.1.1.1.1.1.1.1.1.1.0, (h.1.1.1.0, (h.1.1.1.1.0, (h.1.1.1.1.1.0, (h.1.1.1.1.1.1.0, (h.1.1.1.1.1.1.1.0, (h.1.1.1.1.1.1.1.1.1.1.0, (h.1.1.1.1.1.1.1.1.1.1.1.0, h.1.1.1.1.1.1.1.1.1.1.1.1))))))))))))
pointer_full false s id h = h

module _ (D : Doubles) (f : Form) where
  default_full : (x : Scalar) (t : Data) → writes_scalar_in D f x ≡ Ok t → NumbersInRange (scalar x) → AreFull (tokens_of t)
  default_full x t h r = tree_full t (has_text_in D f (scalar x) t h refl r).is_tree

  scalar_full : (x : Scalar) (t : Data) → writes_scalar_in_order D f x ≡ Ok t → NumbersInRange (scalar x) → AreFull (tokens_of t)
  scalar_full (regex p o) t h r =
      subst (λ u. AreFull (tokens_of u)) (sym (un_ok _ _ h))
      (regex_full (is_mongodb f) p (sorted_regex_options o) (default_full (regex p o) _ refl r))
  scalar_full (timestamp s i) t h r =
      subst (λ u. AreFull (tokens_of u)) (sym (un_ok _ _ h))
      (timestamp_full (is_mongodb f) s i (default_full (timestamp s i) _ refl r))
  scalar_full (db_pointer s id) t h r =
      subst (λ u. AreFull (tokens_of u)) (sym (un_ok _ _ h))
      (pointer_full (is_mongodb f) s id (default_full (db_pointer s id) _ refl r))
  scalar_full x t h r = default_full x t h r

module _ (D : Doubles) (f : Form) where
  mutual
    value_full : (v : Value) (t : Data) → writes_value_in_order D f v ≡ Ok t → NumbersInRange v → AreFull (tokens_of t)
    value_full (scalar x) t h r = scalar_full D f x t h r
    value_full (code_scope s ps) t h r =
        let b = bind_ok (writes_pairs_in_order D f ps) _ t h in
        rw (un_ok _ _ b.2) (
          omega arith,
          (
            key_full (codes "$code"),
            (
              string_full s,
              (
                key_full (codes "$scope"),
                (
                  omega arith,
                  full_append (members_tokens (json_of_members b.0)) (end_object ∷ []) (pairs_full ps b.0 b.1 r) (omega arith, tt),
                ),
              ),
            ),
          ),
        )
    value_full (array vs) t h r =
        let b = bind_ok (writes_items_in_order D f vs) _ t h in rw (un_ok _ _ b.2) (omega arith, values_full vs b.0 b.1 r)
    value_full (document ps) t h r =
        let b = bind_ok (writes_pairs_in_order D f ps) _ t h in rw (un_ok _ _ b.2) (omega arith, pairs_full ps b.0 b.1 r)

    values_full : (vs : Values) (ds : Items) → writes_items_in_order D f vs ≡ Ok ds → ItemsInRange vs
        → AreFull (items_tokens (json_of_items ds))
    values_full no_values ds h r = rw (un_ok _ _ h) (omega arith, tt)
    values_full (value v vs) ds h r =
        let b = bind_ok (writes_value_in_order D f v) _ ds h in
        let c = bind_ok (writes_items_in_order D f vs) _ ds b.2 in
        rw (un_ok _ _ c.2) (full_append (tokens_of b.0) (items_tokens (json_of_items c.0)) (value_full v b.0 b.1 r.0)
        (values_full vs c.0 c.1 r.1))

    pairs_full : (ps : Pairs) (ms : Members) → writes_pairs_in_order D f ps ≡ Ok ms → PairsInRange ps
        → AreFull (members_tokens (json_of_members ms))
    pairs_full no_pairs ms h r = rw (un_ok _ _ h) (omega arith, tt)
    pairs_full (pair k v ps) ms h r =
        let b = bind_ok (writes_value_in_order D f v) _ ms h in
        let c = bind_ok (writes_pairs_in_order D f ps) _ ms b.2 in
        rw (un_ok _ _ c.2) (
          key_full k,
          full_append (tokens_of b.0) (members_tokens (json_of_members c.0))
              (value_full v b.0 b.1 r.0) (pairs_full ps c.0 c.1 r.1),
        )

  -- the room for a value is that for the tokens of its tree
  mutual
    value_room_is : (v : Value) (t : Data) → writes_value_in_order D f v ≡ Ok t → value_capacity D f v ≡ tree_capacity t
    value_room_is (scalar x) t h = scalar_room_is D f x t h
    value_room_is (code_scope s ps) t h =
        let b = bind_ok (writes_pairs_in_order D f ps) _ t h in
        let rest = pairs_room_is ps b.0 b.1 in
        let end = room_append (members_tokens (json_of_members b.0)) (end_object ∷ []) in
        rw (un_ok _ _ b.2) (omega (arith, rest, end))
    value_room_is (array vs) t h =
        let b = bind_ok (writes_items_in_order D f vs) _ t h in
        let rest = values_room_is vs b.0 b.1 in
        rw (un_ok _ _ b.2) (omega (arith, rest))
    value_room_is (document ps) t h =
        let b = bind_ok (writes_pairs_in_order D f ps) _ t h in
        let rest = pairs_room_is ps b.0 b.1 in
        rw (un_ok _ _ b.2) (omega (arith, rest))

    values_room_is : (vs : Values) (ds : Items) → writes_items_in_order D f vs ≡ Ok ds
        → values_capacity D f vs ≡ room (items_tokens (json_of_items ds))
    values_room_is no_values ds h = rw (un_ok _ _ h) refl
    values_room_is (value v vs) ds h =
        let b = bind_ok (writes_value_in_order D f v) _ ds h in
        let c = bind_ok (writes_items_in_order D f vs) _ ds b.2 in
        let one = value_room_is v b.0 b.1 in
        let rest = values_room_is vs c.0 c.1 in
        let both = room_append (tokens_of b.0) (items_tokens (json_of_items c.0)) in
        rw (un_ok _ _ c.2) (omega (arith, one, rest, both))

    pairs_room_is : (ps : Pairs) (ms : Members) → writes_pairs_in_order D f ps ≡ Ok ms
        → pairs_capacity D f ps ≡ room (members_tokens (json_of_members ms))
    pairs_room_is no_pairs ms h = rw (un_ok _ _ h) refl
    pairs_room_is (pair k v ps) ms h =
        let b = bind_ok (writes_value_in_order D f v) _ ms h in
        let c = bind_ok (writes_pairs_in_order D f ps) _ ms b.2 in
        let one = value_room_is v b.0 b.1 in
        let rest = pairs_room_is ps c.0 c.1 in
        let both = room_append (tokens_of b.0) (members_tokens (json_of_members c.0)) in
        rw (un_ok _ _ c.2) (omega (arith, one, rest, both))

  pub room_twice : (v : Value) (s : List ℕ) → IsTextInOrder D f v s → NumbersInRange v → value_capacity D f v ≤ 2 * length s
  room_twice v s h r =
      let is = written_to D f v h.tree h.written in
      let room_is = value_room_is v h.tree is in
      let bound = twice false (tokens_of h.tree) (value_full v h.tree is r) in
      let text : s ≡ print (tokens_of h.tree) = h.compact ∙ text_is D f h.tree (has_no_float D f v h.tree h.written) in
      omega (arith, room_is, bound, ap length text)
