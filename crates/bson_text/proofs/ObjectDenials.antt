-- Whole objects: documents, wrappers of one key, and code with its scope.
use Rattle.std.proofs.Common.{◌≡◌, ℕ, List, Option, Some, None}
use Rattle.std.proofs.Common.{Result, Ok, Err, Bool, true, false, refl, sym, ap, ◌∙◌, subst}
use Rattle.std.proofs.Common.{codes, ◌&&◌, ◌||◌, bytes_eq, is_some, cond}
use Rattle.std.proofs.lemmas.Option.{same_Some}
use Rattle.std.proofs.lemmas.Slice.Eq.{bytes_eq-Decides}
use Rattle.json.specs.Json as json
use Rattle.json.specs.Strict.{AreDistinct, keys}
use Rattle.serde_json.specs.Data.{Data, Members, no_members, member, object}
use Rattle.serde_json.specs.Find.{as_str}
use Rattle.bson_scalar.specs.Faults.{Fault, wrong_shape, ◌>>=◌, or_wrong_shape}
use Rattle.bson_scalar.specs.Reading.{optional_wrapper_read_in, wrapper_read_in, on_text}
use Rattle.bson_scalar.specs.Scalar.{Scalar}
use Rattle.bson_scalar.specs.Table.{wrapper_of, has_wrapper}
use Rattle.bson_scalar.specs.declared.form.Doubles.{Doubles}
use Rattle.bson_scalar.specs.declared.wrapper.Wrapper.{Wrapper}
use Rattle.bson_model.specs.Reading.{code_with_scope_read, scalar_result_as_value, scope_value}
use Rattle.bson_model.specs.Value as model
use Rattle.bson_model.specs.Value.{Value, Pairs}
use Rattle.bson_model.specs.OrderedTrees.{tree_of_json, members_of_json, put_at_key_position, tree_sorted_by_key, has_key, KeysDiffer}
use Rattle.bson_model.specs.OrderedReading.{reads_tree_in_order, reads_members_in_order, reads_wrapper_in_order, reads_scope_in_order}
use Rattle.bson_model.proofs.OfferedInOrder.{joined, joined_again, joined_none, put_last}
use Rattle.bson_text.proofs.Differ.{Differ, differ, stands}
use Rattle.bson_text.proofs.Members.{insert_each}
use Rattle.bson_text.specs.ErrorDenials.{members_as_given, IsMeaningful, MembersAreMeaningful}
use Rattle.bson_text.specs.RejectedText.{has_scope_before_code, MembersCodeBeforeScope}
use Rattle.bson_text.proofs.Denials.{split_kept, was_read, mapped, Once}
use Rattle.bson_text.proofs.Faults.{not_true, and_some, no_code, join_trees as join_kept}

-- ---- an object of which no key occurs twice stays unchanged

same_has : (l : List ℕ) (js : json.Members) (ts : Members) → members_as_given js ≡ Some ts → has_key l ts ≡ stands l (keys js)
same_has l json.no_members ts is = ap (has_key l) (sym (same_Some no_members ts is))
same_has l (json.member k j js) ts is =
    let a = split_kept (member k) (tree_of_json j) (members_as_given js) ts is in
    ap (has_key l) a.4 ∙ ap (λ b. bytes_eq l k || b) (same_has l js a.1 a.3)

kept_apart : (js : json.Members) (ts : Members) → members_as_given js ≡ Some ts → Differ (keys js) → KeysDiffer ts
kept_apart json.no_members ts is apart = subst KeysDiffer (same_Some no_members ts is) tt
kept_apart (json.member k j js) ts is apart =
    let a = split_kept (member k) (tree_of_json j) (members_as_given js) ts is in
    subst KeysDiffer (sym a.4) (same_has k js a.1 a.3 ∙ apart.0, kept_apart js a.1 a.3 apart.1)

put_in_turn : (ms found : Members) → KeysDiffer (joined found ms) → insert_each ms found ≡ joined found ms
put_in_turn no_members found h = sym (joined_none found)
put_in_turn (member k d ms) found h =
    let again = joined_again found k d ms in
    ap (insert_each ms) (put_last found k d ms h)
    ∙ put_in_turn ms (joined found (member k d no_members)) (subst KeysDiffer (sym again) h) ∙ again

stand : (js : json.Members) (found all : Members) → members_of_json js found ≡ Some all
    → (ms : Members) × (members_as_given js ≡ Some ms) × (all ≡ insert_each ms found)
stand json.no_members found all is = (no_members, refl, sym (same_Some found all is))
stand (json.member k j js) found all is =
    let a = and_some (λ d. members_of_json js (put_at_key_position k d found)) (tree_of_json j) all is in
    let g = stand js (put_at_key_position k a.0 found) all a.2 in
    (member k a.0 g.0, join_kept (member k) (tree_of_json j) (members_as_given js) a.0 g.0 a.1 g.1, g.2)

pub kept_stands : (js : json.Members) (all : Members) → AreDistinct (keys js) → members_of_json js no_members ≡ Some all
    → members_as_given js ≡ Some all
kept_stands js all apart is =
    let g = stand js no_members all is in
    let same = put_in_turn g.0 no_members (kept_apart js g.0 g.1 (differ (keys js) apart)) in
    g.1 ∙ ap Some (sym (g.2 ∙ same))

-- ---- keys

abbrev pub FirstKey : Option (List ℕ) → json.Members → Type 0
FirstKey None ms = ms ≡ json.no_members
FirstKey (Some k) ms = (j : json.Json) × (js : json.Members) × (ms ≡ json.member k j js)

no_scope : (k : List ℕ) (w : Wrapper) → wrapper_of k ≡ Some w → bytes_eq k (codes "$scope") ≡ false
no_scope k w named = not_true (bytes_eq k (codes "$scope")) (λ yes.
    let never : wrapper_of (codes "$scope") ≡ Some w =
    subst (λ x. wrapper_of x ≡ Some w) ((bytes_eq-Decides k (codes "$scope")).0 yes) named in cc)

module _ (D : Doubles) where
  -- what an object means, by its members unchanged
  object_means : (ms : json.Members) → Once ms → IsMeaningful D (json.object ms)
      → (ts : Members) × (v : Value) × (members_as_given ms ≡ Some ts) × (reads_tree_in_order D (object ts) ≡ Ok v)
  object_means ms u (free, t, v, is, means) =
      let a = mapped object (members_of_json ms no_members) t is in
      (a.0, v, kept_stands ms a.0 u.0 a.1, subst (λ x. reads_tree_in_order D x ≡ Ok v) a.2 means)

  pub kept_first : (k : List ℕ) (j : json.Json) (js : json.Members) → Once (json.member k j js)
      → IsMeaningful D (json.object (json.member k j js)) → (d : Data) × (tree_of_json j ≡ Some d)
  kept_first k j js u means =
      let o = object_means (json.member k j js) u means in
      let a = split_kept (member k) (tree_of_json j) (members_as_given js) o.0 o.2 in (a.0, a.2)

  -- ---- documents

  never_code : (b c : Bool) (y : Result Value Fault) (v : Value) → (b && c) ≡ false
      → cond (b && c) y (Err wrong_shape) ≡ Ok v → ⊥
  never_code true true y v h is = cc
  never_code true false y v h is = cc
  never_code false c y v h is = cc

  turned_and : (b c : Bool) → (c && b) ≡ false → (b && c) ≡ false
  turned_and true true h = h
  turned_and true false h = refl
  turned_and false c h = refl

  and_false : (b c : Bool) → b ≡ false → (b && c) ≡ false
  and_false true c h = cc
  and_false false c h = refl

  begins_with_scope : (b : Bool) (k l : List ℕ) (d e : Data) (v : Value) → bytes_eq k (codes "$scope") ≡ b
      → bytes_eq k (codes "$code") ≡ false → (bytes_eq k (codes "$scope") && bytes_eq l (codes "$code")) ≡ false
      → cond b (code_with_scope_read l (tree_sorted_by_key e) k (reads_scope_in_order D d)) (code_with_scope_read k (tree_sorted_by_key d) l (reads_scope_in_order D e)) ≡ Ok v → ⊥
  begins_with_scope true k l d e v is plain first means =
      never_code (bytes_eq l (codes "$code")) (bytes_eq k (codes "$scope")) _ v
      (turned_and (bytes_eq l (codes "$code")) (bytes_eq k (codes "$scope")) first) means
  begins_with_scope false k l d e v is plain first means =
      never_code (bytes_eq k (codes "$code")) (bytes_eq l (codes "$scope")) _ v
      (and_false (bytes_eq k (codes "$code")) (bytes_eq l (codes "$scope")) plain) means

  second_key : (k l : List ℕ) (j : json.Json) (js : json.Members) (e : Data) (ts : Members)
      → members_as_given js ≡ Some (member l e ts) → has_scope_before_code (json.member k j js) ≡ false
      → (bytes_eq k (codes "$scope") && bytes_eq l (codes "$code")) ≡ false
  second_key k l j json.no_members e ts is first =
      let same = same_Some no_members (member l e ts) is in cc
  second_key k l j (json.member m i js) e ts is first =
      let a = split_kept (member m) (tree_of_json i) (members_as_given js) (member l e ts) is in
      let same : l ≡ m = cc in
      subst (λ x. (bytes_eq k (codes "$scope") && bytes_eq x (codes "$code")) ≡ false) (sym same) first

  no_wrapper : (k : List ℕ) (j : json.Json) (js : json.Members) (d : Data) (ts : Members) (v : Value)
      → members_as_given js ≡ Some ts → wrapper_of k ≡ None → has_scope_before_code (json.member k j js) ≡ false
      → reads_wrapper_in_order D (member k d ts) ≡ Ok v → ⊥
  no_wrapper k j js d no_members v is plain first means =
      let never : scalar_result_as_value (optional_wrapper_read_in D None (tree_sorted_by_key d)) ≡ Ok v =
      subst (λ w. scalar_result_as_value (optional_wrapper_read_in D w (tree_sorted_by_key d)) ≡ Ok v) plain means in
      cc
  no_wrapper k j js d (member l e no_members) v is plain first means =
      begins_with_scope (bytes_eq k (codes "$scope")) k l d e v refl (no_code k plain)
      (second_key k l j js e no_members is first) means
  no_wrapper k j js d (member l e (member m f ts)) v is plain first means = let never : Err wrong_shape ≡ Ok v = means in cc

  plain_at : (b : Bool) (ts : Members) (v : Value) → has_wrapper ts ≡ b → (reads_wrapper_in_order D ts ≡ Ok v → ⊥)
      → cond b (reads_wrapper_in_order D ts) (reads_members_in_order D ts >>= λ ps. Ok (model.document ps)) ≡ Ok v
      → (has_wrapper ts ≡ false) × (ps : Pairs) × (reads_members_in_order D ts ≡ Ok ps)
  plain_at true ts v is never means = absurd (never means)
  plain_at false ts v is never means =
      let g = was_read model.document (reads_members_in_order D ts) v means in (is, g.0, g.1)

  -- an object whose first key is no wrapper's, and which is no scope before its code, is a document
  pub document_some : (first : Option (List ℕ)) (ms : json.Members) → FirstKey first ms
      → ((k : List ℕ) → first ≡ Some k → wrapper_of k ≡ None) → Once ms → IsMeaningful D (json.object ms)
      → MembersAreMeaningful D true ms
  document_some None ms is plain u means =
      subst (MembersAreMeaningful D true) (sym is) (tt, no_members, model.no_pairs, refl, refl, λ yes. refl)
  document_some (Some k) ms (j, js, is) plain u means =
      let ordinary = plain k refl in
      let free = subst (λ x. MembersCodeBeforeScope x × (has_scope_before_code x ≡ false)) is (means.0.1, means.0.0) in
      let o = object_means ms u means in
      let a = split_kept (member k) (tree_of_json j) (members_as_given js) o.0 (subst (λ x. members_as_given x ≡ Some o.0) is o.2) in
      let read = subst (λ x. reads_tree_in_order D (object x) ≡ Ok o.1) a.4 o.3 in
      let g = plain_at (has_wrapper (member k a.0 a.1)) (member k a.0 a.1) o.1 refl
      (no_wrapper k j js a.0 a.1 o.1 a.3 ordinary free.1) read in (
        means.0.1,
        o.0,
        g.1,
        o.2,
        subst (λ x. reads_members_in_order D x ≡ Ok g.1) (sym a.4) g.2,
        λ yes. subst (λ x. has_wrapper x ≡ false) (sym a.4) g.0,
      )

  -- ---- wrappers

  -- an object that begins with a wrapper's key is one
  wrapper_means : (k : List ℕ) (w : Wrapper) (j : json.Json) (js : json.Members) → wrapper_of k ≡ Some w
      → Once (json.member k j js) → IsMeaningful D (json.object (json.member k j js))
      → (d : Data) × (ts : Members) × (v : Value) × (tree_of_json j ≡ Some d) × (members_as_given js ≡ Some ts)
      × (reads_wrapper_in_order D (member k d ts) ≡ Ok v)
  wrapper_means k w j js named u means =
      let o = object_means (json.member k j js) u means in
      let a = split_kept (member k) (tree_of_json j) (members_as_given js) o.0 o.2 in
      let read = subst (λ x. reads_tree_in_order D (object x) ≡ Ok o.1) a.4 o.3 in
      let is : has_wrapper (member k a.0 a.1) ≡ true = ap (λ x. is_some x || has_wrapper a.1) named in (
        a.0,
        a.1,
        o.1,
        a.2,
        a.3,
        subst (λ b. cond b (reads_wrapper_in_order D (member k a.0 a.1))
            (reads_members_in_order D (member k a.0 a.1) >>= λ ps. Ok (model.document ps)) ≡ Ok o.1) is read,
      )

  scalar_read : (x : Result Scalar Fault) (v : Value) → scalar_result_as_value x ≡ Ok v → (s : Scalar) × (x ≡ Ok s)
  scalar_read x v h = was_read model.scalar x v h

  pub alone_means : (k : List ℕ) (w : Wrapper) (j : json.Json) → wrapper_of k ≡ Some w
      → Once (json.member k j json.no_members) → IsMeaningful D (json.object (json.member k j json.no_members))
      → (d : Data) × (x : Scalar) × (tree_of_json j ≡ Some d) × (wrapper_read_in D w (tree_sorted_by_key d) ≡ Ok x)
  alone_means k w j named u means =
      let g = wrapper_means k w j json.no_members named u means in
      let none = same_Some no_members g.1 g.4 in
      let read = subst (λ ts. reads_wrapper_in_order D (member k g.0 ts) ≡ Ok g.2) (sym none) g.5 in
      let x = scalar_read (optional_wrapper_read_in D (wrapper_of k) (tree_sorted_by_key g.0)) g.2 read in
      (g.0, x.0, g.3, subst (λ o. optional_wrapper_read_in D o (tree_sorted_by_key g.0) ≡ Ok x.0) named x.1)

  -- code at the two keys
  code_read : (b c : Bool) (d : Data) (scope : Result (Option Pairs) Fault) (v : Value)
      → cond (b && c) (on_text d (λ s. scope_value s scope)) (Err wrong_shape) ≡ Ok v
      → (b ≡ true) × (c ≡ true) × (on_text d (λ s. scope_value s scope) ≡ Ok v)
  code_read true true d scope v h = (refl, refl, h)
  code_read true false d scope v h = cc
  code_read false c d scope v h = cc

  text_read : (o : Option (List ℕ)) (scope : Result (Option Pairs) Fault) (v : Value)
      → (or_wrong_shape o >>= λ s. scope_value s scope) ≡ Ok v
      → (s : List ℕ) × (o ≡ Some s) × (ps : Option Pairs) × (scope ≡ Ok ps)
  text_read None scope v h = cc
  text_read (Some s) (Err f) v h = cc
  text_read (Some s) (Ok ps) v h = (s, refl, ps, refl)

  two_at : (k l : List ℕ) (d e : Data) (v : Value) → bytes_eq k (codes "$scope") ≡ false
      → cond (bytes_eq k (codes "$scope")) (code_with_scope_read l (tree_sorted_by_key e) k (reads_scope_in_order D d))
      (code_with_scope_read k (tree_sorted_by_key d) l (reads_scope_in_order D e)) ≡ Ok v → code_with_scope_read k (tree_sorted_by_key d) l (reads_scope_in_order D e) ≡ Ok v
  two_at k l d e v apart h =
      subst (λ b. cond b (code_with_scope_read l (tree_sorted_by_key e) k (reads_scope_in_order D d))
      (code_with_scope_read k (tree_sorted_by_key d) l (reads_scope_in_order D e)) ≡ Ok v) apart h

  -- a second key beside a wrapper's makes code with its scope, and no third is there
  pub record Coded (k l : List ℕ) (j i : json.Json) (ms : json.Members) : Type 0 where
    pub first : bytes_eq k (codes "$code") ≡ true
    pub second : bytes_eq l (codes "$scope") ≡ true
    pub alone : ms ≡ json.no_members
    pub code : Data
    pub code_kept : tree_of_json j ≡ Some code
    pub text : List ℕ
    pub code_text : as_str (tree_sorted_by_key code) ≡ Some text
    pub scope : Data
    pub scope_kept : tree_of_json i ≡ Some scope
    pub pairs : Option Pairs
    pub scope_read : reads_scope_in_order D scope ≡ Ok pairs

  no_more : (ms : json.Members) → members_as_given ms ≡ Some no_members → ms ≡ json.no_members
  no_more json.no_members is = refl
  no_more (json.member k j ms) is =
      let a = split_kept (member k) (tree_of_json j) (members_as_given ms) no_members is in let never = a.4 in cc

  coded_at : (k l : List ℕ) (w : Wrapper) (j i : json.Json) (ms : json.Members) (d e : Data) (us : Members) (v : Value)
      → wrapper_of k ≡ Some w → tree_of_json j ≡ Some d → tree_of_json i ≡ Some e → members_as_given ms ≡ Some us
      → reads_wrapper_in_order D (member k d (member l e us)) ≡ Ok v → Coded k l j i ms
  coded_at k l w j i ms d e no_members v named is held more read =
      let two = two_at k l d e v (no_scope k w named) read in
      let c = code_read (bytes_eq k (codes "$code")) (bytes_eq l (codes "$scope")) (tree_sorted_by_key d) (reads_scope_in_order D e) v two in
      let t = text_read (as_str (tree_sorted_by_key d)) (reads_scope_in_order D e) v c.2 in
      record {
        first = c.0;
        second = c.1;
        alone = no_more ms more;
        code = d;
        code_kept = is;
        text = t.0;
        code_text = t.1;
        scope = e;
        scope_kept = held;
        pairs = t.2;
        scope_read = t.3;
      }
  coded_at k l w j i ms d e (member m f us) v named is held more read = let never : Err wrong_shape ≡ Ok v = read in cc

  pub two_means : (k l : List ℕ) (w : Wrapper) (j i : json.Json) (ms : json.Members) → wrapper_of k ≡ Some w
      → Once (json.member k j (json.member l i ms)) → IsMeaningful D (json.object (json.member k j (json.member l i ms)))
      → Coded k l j i ms
  two_means k l w j i ms named u means =
      let g = wrapper_means k w j (json.member l i ms) named u means in
      let a = split_kept (member l) (tree_of_json i) (members_as_given ms) g.1 g.4 in
      let read = subst (λ ts. reads_wrapper_in_order D (member k g.0 ts) ≡ Ok g.2) a.4 g.5 in
      coded_at k l w j i ms g.0 a.0 a.1 g.2 named g.3 a.2 a.3 read
