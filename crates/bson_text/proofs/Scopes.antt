-- The first fault of code with its scope.
use Rattle.std.proofs.Common.{◌≡◌, ℕ, zero, suc, ◌-◌, ◌<◌, List, [], ◌∷◌, length, Option, Some, None}
use Rattle.std.proofs.Common.{Result, Ok, Err, Bool, true, false, refl, sym, ap, ◌∙◌, subst}
use Rattle.std.proofs.Common.{arith, codes, ◌&&◌, bytes_eq, cond, ◌⊎◌, inl, inr, Bor}
use Rattle.std.specs.Prelude.{OnErr}
use Rattle.std.proofs.lemmas.Option.{same_Some}
use Rattle.json.specs.Json as json
use Rattle.json.specs.Json.{Parse, parse_map, read_key, items, members, members_step, value, value_with}
use Rattle.json.specs.Reads.{token_of}
use Rattle.json.specs.declared.token.Token as found_token
use Rattle.json.specs.declared.token.Token.TheVariants.{String, Number, Bool as Truth}
use Rattle.json.specs.Token as token
use Rattle.json.specs.Token.{Token}
use Rattle.json.proofs.Grammar.{value_is, value-begin_array, value-begin_object}
use Rattle.serde_json.specs.Data.{Data, Members, no_members, member, object}
use Rattle.serde_json.specs.Data as tree
use Rattle.serde_json.specs.Find.{as_str}
use Rattle.serde_json.specs.Read.{of_json, of_items, of_members, converted, number_of}
use Rattle.bson_scalar.specs.Table.{wrapper_of}
use Rattle.bson_scalar.specs.declared.form.Doubles.{Doubles}
use Rattle.bson_scalar.specs.declared.wrapper.Wrapper.{Wrapper}
use Rattle.bson_tree.specs.Place.{key}
use Rattle.bson_tree.specs.declared.place.Place.{Place}
use Rattle.bson_tokens.specs.FirstFault.{FaultAndPath, fault_in_tree, first_member_fault, scope_fault, add_segment, wrong_shape_here, code_fault}
use Rattle.bson_tokens.specs.WrapperContent.{IsWrapperContent}
use Rattle.bson_tokens.proofs.Offered.{was_read as from_tree}
use Rattle.bson_text.specs.TraversalResults.{members_after_brace, members_after_key}
use Rattle.bson_text.proofs.Denials.{mapped_parse, then_parsed, split_kept, mapped}
use Rattle.bson_text.proofs.Parsed.{same_parse, after_first, none_behind, a_text}
use Rattle.bson_text.specs.ErrorPaths.{HasSortedKeys, MembersHaveAscendingKeys, member_trees, IsPlaceOfFault, IsWrongShape, IsPlaceFromParent, IsWrongShapeAtValue, IsScopeTypeError}
use Rattle.bson_text.specs.ErrorPaths.{SkipsFromValue, SkipsToObjectEnd, IsPlaceOfScope, IsErrorInScope, IsExtraKeyError, LocatesCodeError, LocatesScopeError, first_fault_of_code}
use Rattle.bson_text.specs.ErrorPaths.{LocatesMembersError, LocatesObjectError}
use Rattle.bson_text.specs.ScopeTokens.{IsNotScopeStart}
use Rattle.bson_text.specs.declared.traversal_error.TraversalError.{TraversalError}
use Rattle.bson_text.proofs.Faults.{placed_within, placed_here, rising}
use Rattle.bson_text.proofs.Passing.{at_map, members_off}
use Rattle.bson_text.proofs.Wrapped.{by_wrapper, one_behind, or_nothing}

-- what holds of an error, where the answer is no other
pub err_of : {X E : Type 0} (r : Result X E) (P : Type 0) → ((x : X) → r ≡ Ok x → ⊥) → OnErr r P → P
err_of (Ok x) P none h = absurd (none x refl)
err_of (Err e) P none h = h

none_some : {A : Type 0} (o : Option A) (a : A) → o ≡ None → o ≡ Some a → ⊥
none_some o a h g = cc

-- ---- what follows a scope

is_first : (depth n : ℕ) (ts s r : List Token) (k : List ℕ) (ms : json.Members) → read_key ts ≡ Some (Some k, s)
    → members (value depth) n ts ≡ Some (ms, r)
    → (m : ℕ) × (j : json.Json) × (os : json.Members) × (ms ≡ json.member k j os)
    × (members_step (value depth) (members (value depth) m) (Some k) s ≡ Some (ms, r))
is_first depth n ts s r k ms named is =
    let o = one_behind (value depth) n ts s r k ms named is in
    let g = then_parsed (json.member k) (members (value depth) o.0) (value depth s) ms r o.1 in
    (o.0, g.0, g.2, g.5, o.1)

pub seen_end : (depth n : ℕ) (ts s r : List Token) (ms : json.Members) (p q : Place) → read_key ts ≡ Some (None, s)
    → members (value depth) n ts ≡ Some (ms, r) → IsPlaceFromParent (key (codes "$scope")) p q → (s ≡ r) × IsPlaceOfScope ms p q
seen_end depth n ts s r ms p q ended is within_scope =
    let none = none_behind (value depth) n ts s r ms ended is in
    ((members_off (value depth) n ts s r ms ended is).0, subst (λ x. IsPlaceOfScope x p q) (sym none) within_scope)

pub seen_more : (depth n : ℕ) (ts s rest r : List Token) (k : List ℕ) (ms : json.Members) (p q : Place)
    → read_key ts ≡ Some (Some k, s) → members (value depth) n ts ≡ Some (ms, r) → SkipsFromValue depth s rest → IsWrongShape q
    → (rest ≡ r) × IsPlaceOfScope ms p q
seen_more depth n ts s rest r k ms p q named is passed shape =
    let g = is_first depth n ts s r k ms named is in
    (passed g.0 k ms r g.4, subst (λ x. IsPlaceOfScope x p q) (sym g.3) shape)

pub more_end : (depth n : ℕ) (ts s rest r : List Token) (k : List ℕ) (ms : json.Members) → read_key ts ≡ Some (Some k, s)
    → members (value depth) n ts ≡ Some (ms, r) → SkipsFromValue depth s rest → (rest ≡ r) × (ms ≡ json.no_members → ⊥)
more_end depth n ts s rest r k ms named is passed =
    let g = is_first depth n ts s r k ms named is in
    (passed g.0 k ms r g.4, λ none. let never = sym g.3 ∙ none in cc)

-- ---- where no scope starts

-- a value of one token
one_token : (depth : ℕ) (i : json.Json) (ts r rest : List Token) → value depth ts ≡ Some (i, r) → SkipsToObjectEnd depth r rest
    → SkipsFromValue depth ts rest
one_token depth i ts r rest read passed = λ n l ms end wrong_shape_here.
    let g = then_parsed (json.member l) (members (value depth) n) (value depth ts) ms end wrong_shape_here in
    let same = same_parse (value depth ts) g.0 i g.1 r g.3 read in
    passed n g.2 end (subst (λ x. members (value depth) n x ≡ Some (g.2, end)) same.1 g.4)

token_passed : (depth : ℕ) (i : json.Json) (t : Token) (ts r rest : List Token) → ts ≡ t ∷ r
    → value depth (t ∷ r) ≡ Some (i, r) → IsNotScopeStart (t ∷ r) → SkipsToObjectEnd depth r rest → IsNotScopeStart ts × SkipsFromValue depth ts rest
token_passed depth i t ts r rest starts read none passed =
    (subst IsNotScopeStart (sym starts) none, one_token depth i ts r rest (ap (value depth) starts ∙ read) passed)

pub primitive_passed : (depth : ℕ) (k : found_token.Token) (ts r rest : List Token) → ts ≡ token_of k ∷ r
    → ((s : Bor (List ℕ)) × (k ≡ String s)) ⊎ ((s : Bor (List ℕ)) × (k ≡ Number s)) ⊎ ((b : Bool) × (k ≡ Truth b))
    → SkipsToObjectEnd depth r rest → IsNotScopeStart ts × SkipsFromValue depth ts rest
primitive_passed depth k ts r rest is (inl (s, e)) = token_passed depth (json.string s.now) (token.string s.now) ts r rest
    (is ∙ ap (λ x. token_of x ∷ r) e) (value_is depth (token.string s.now ∷ r)) tt
primitive_passed depth k ts r rest is (inr (inl (s, e))) = token_passed depth (json.number s.now) (token.number s.now) ts r rest
    (is ∙ ap (λ x. token_of x ∷ r) e) (value_is depth (token.number s.now ∷ r)) tt
primitive_passed depth k ts r rest is (inr (inr (b, e))) = token_passed depth (json.boolean b) (token.boolean b) ts r rest
    (is ∙ ap (λ x. token_of x ∷ r) e) (value_is depth (token.boolean b ∷ r)) tt

-- an array
pub array_passed : (depth : ℕ) (ts r mid rest : List Token) → ts ≡ token.begin_array ∷ r → 0 < depth
    → ((n : ℕ) (js : json.Items) (end : List Token) → items (value (depth - 1)) n r ≡ Some (js, end) → mid ≡ end)
    → SkipsToObjectEnd depth mid rest → IsNotScopeStart ts × SkipsFromValue depth ts rest
array_passed depth ts r mid rest starts left items_passed passed = (
  subst IsNotScopeStart (sym starts) tt,
  λ n l ms end wrong_shape_here.
      let g = then_parsed (json.member l) (members (value depth) n) (value depth ts) ms end wrong_shape_here in
      let read : parse_map json.array (items (value (depth - 1)) (length r) r) ≡ Some (g.0, g.1) =
      sym (ap (value depth) starts ∙ value-begin_array depth r left) ∙ g.3 in
      let a = mapped_parse json.array (items (value (depth - 1)) (length r) r) g.0 g.1 read in
      let same = items_passed (length r) a.0 g.1 a.1 in
      passed n g.2 end (subst (λ x. members (value depth) n x ≡ Some (g.2, end)) (sym same) g.4),
)

module _ (D : Doubles) where
  scope_found : (d : Data) (ds : tree.Items) → d ≡ tree.array ds → scope_fault D d ≡ wrong_shape_here
  scope_found d ds is = ap (scope_fault D) is

  none_found : (depth : ℕ) (ts r : List Token) (j : json.Json) (d : Data) (a : Parse json.Items) (o : Parse json.Members)
      → IsNotScopeStart ts → value_with a o ts ≡ Some (j, r) → of_json j ≡ Some d → scope_fault D d ≡ wrong_shape_here
  none_found depth [] r j d a o none is of = cc
  none_found depth (token.begin_object ∷ ts) r j d a o none is of = absurd none
  none_found depth (token.end_object ∷ ts) r j d a o none is of = cc
  none_found depth (token.begin_array ∷ ts) r j d a o none is of =
      let g = mapped_parse json.array (a ts) j r is in
      let b = mapped tree.array (of_items g.0) d (subst (λ x. of_json x ≡ Some d) g.2 of) in
      scope_found d b.0 b.2
  none_found depth (token.end_array ∷ ts) r j d a o none is of = cc
  none_found depth (token.key s ∷ ts) r j d a o none is of = cc
  none_found depth (token.string s ∷ ts) r j d a o none is of =
      let same = same_parse (Some (json.string s, ts)) (json.string s) j ts r refl is in
      let t = same_Some (tree.string s) d (subst (λ x. of_json x ≡ Some d) (sym same.0) of) in ap (scope_fault D) (sym t)
  none_found depth (token.number s ∷ ts) r j d a o none is of =
      let same = same_parse (Some (json.number s, ts)) (json.number s) j ts r refl is in
      let b = mapped tree.number (number_of s) d (subst (λ x. of_json x ≡ Some d) (sym same.0) of) in ap (scope_fault D) b.2
  none_found depth (token.boolean b ∷ ts) r j d a o none is of =
      let same = same_parse (Some (json.boolean b, ts)) (json.boolean b) j ts r refl is in
      let t = same_Some (tree.boolean b) d (subst (λ x. of_json x ≡ Some d) (sym same.0) of) in ap (scope_fault D) (sym t)
  none_found depth (token.null ∷ ts) r j d a o none is of = absurd none
  none_found depth (token.bad ∷ ts) r j d a o none is of = cc

  -- the verdict of a scope alone, and of one with more after it
  scope_alone : (l : List ℕ) (e : Data) (us ws : Members) → us ≡ member l e ws → ws ≡ no_members
      → first_fault_of_code D us ≡ scope_fault D e
  scope_alone l e us ws is none = ap (first_fault_of_code D) (is ∙ ap (member l e) none)

  more_here : (l : List ℕ) (e : Data) (ws : Members) → (ws ≡ no_members → ⊥) → first_fault_of_code D (member l e ws) ≡ wrong_shape_here
  more_here l e no_members more = absurd (more refl)
  more_here l e (member m f ws) more = refl

  here_at : (l : List ℕ) (e : Data) (ws : Members) → scope_fault D e ≡ wrong_shape_here → first_fault_of_code D (member l e ws) ≡ wrong_shape_here
  here_at l e no_members is = is
  here_at l e (member m f ws) is = refl

  no_trees : (ms : json.Members) (ts : Members) → member_trees ms ≡ Some ts → ts ≡ no_members → ms ≡ json.no_members
  no_trees json.no_members ts of none = refl
  no_trees (json.member k j ms) ts of none =
      let a = split_kept (member k) (of_json j) (member_trees ms) ts of in let never = sym a.4 ∙ none in cc

  pub no_scope_placed : (b : Bool) (e : TraversalError) (depth : ℕ) (ts rest : List Token) → IsScopeTypeError depth ts e rest
      → LocatesCodeError D b depth e ts rest
  no_scope_placed b e depth ts rest out first = at_map e _ _ (λ q (shape, none, passed) n l ms r us parsed rise of.
      let g = then_parsed (json.member l) (members (value depth) n) (value depth ts) ms r parsed in
      let a = split_kept (member l) (of_json g.0) (member_trees g.2) us (subst (λ x. member_trees x ≡ Some us) g.5 of) in
      let is = none_found depth ts g.1 g.0 a.0 _ _ none (sym (value_is depth ts) ∙ g.3) a.2 in
      (passed n l ms r parsed, placed_here (first_fault_of_code D us) q shape (ap (first_fault_of_code D) a.4 ∙ here_at l a.0 a.1 is))) out

  -- a further key after a scope that was read
  pub end_placed : (b : Bool) (e : TraversalError) (depth : ℕ) (ts s rest : List Token) (i : json.Json) → value depth ts ≡ Some (i, s)
      → (b ≡ false → IsExtraKeyError depth s e rest) → LocatesCodeError D b depth e ts rest
  end_placed b e depth ts s rest i read out first = at_map e _ _ (λ q (shape, passed) n l ms r us parsed rise of.
      let g = then_parsed (json.member l) (members (value depth) n) (value depth ts) ms r parsed in
      let same = same_parse (value depth ts) g.0 i g.1 s g.3 read in
      let h = passed n g.2 r (subst (λ x. members (value depth) n x ≡ Some (g.2, r)) same.1 g.4) in
      let a = split_kept (member l) (of_json g.0) (member_trees g.2) us (subst (λ x. member_trees x ≡ Some us) g.5 of) in (
        h.0,
        placed_here (first_fault_of_code D us) q shape (ap (first_fault_of_code D) a.4
            ∙ more_here l a.0 a.1 (λ none. h.1 (no_trees g.2 a.1 a.3 none))),
      )) (out first)

  scope_seen : (os : json.Members) (ws ds : Members) (l : List ℕ) (p q : Place) → member_trees os ≡ Some ws
      → IsPlaceOfFault (first_member_fault D ds) p → IsPlaceOfScope os p q → IsPlaceOfFault (first_fault_of_code D (member l (object ds) ws)) q
  scope_seen json.no_members ws ds l p q of is seen =
      placed_within (first_member_fault D ds) (first_fault_of_code D (member l (object ds) ws)) (key (codes "$scope")) None p q is seen
      (scope_alone l (object ds) (member l (object ds) ws) ws refl (sym (same_Some no_members ws of))
      ∙ or_nothing (add_segment (key (codes "$scope")) (first_member_fault D ds)))
  scope_seen (json.member k j os) ws ds l p q of is seen = placed_here (first_fault_of_code D (member l (object ds) ws)) q seen
      (more_here l (object ds) ws (λ none. let never = no_trees (json.member k j os) ws of none in cc))

  pub scope_placed : (b : Bool) (e f : TraversalError) (depth : ℕ) (ts s mid rest : List Token) → ts ≡ token.begin_object ∷ s
      → LocatesScopeError D depth e s mid → IsErrorInScope depth e mid f rest → LocatesCodeError D b depth f ts rest
  scope_placed b e f zero ts s mid rest starts at out first = at_map f _ _ (λ q h n l ms r us parsed rise of.
      let g = then_parsed (json.member l) (members (value zero) n) (value zero ts) ms r parsed in
      let none : value zero ts ≡ None = ap (value zero) starts ∙ value_is zero (token.begin_object ∷ s) in
      absurd (none_some {A = json.Json × List Token} (value zero ts) (g.0, g.1) none g.3)) out
  scope_placed b e f (suc d) ts s mid rest starts at out first = at_map f _ _ (λ q (p, is, passed) n l ms r us parsed rise of.
      let depth = suc d in
      let left : 0 < suc d = omega arith in
      let g = then_parsed (json.member l) (members (value depth) n) (value depth ts) ms r parsed in
      let read : parse_map json.object (members_after_brace (depth - 1) s) ≡ Some (g.0, g.1) =
      sym (ap (value depth) starts ∙ value-begin_object depth s left) ∙ g.3 in
      let o = mapped_parse json.object (members_after_brace (depth - 1) s) g.0 g.1 read in
      let a = split_kept (member l) (of_json g.0) (member_trees g.2) us (subst (λ x. member_trees x ≡ Some us) g.5 of) in
      let rises = subst MembersHaveAscendingKeys g.5 rise in
      let inner = subst HasSortedKeys o.2 rises.1 in
      let t = mapped object (of_members o.0 no_members) a.0 (subst (λ x. of_json x ≡ Some a.0) o.2 a.2) in
      let now = subst (λ x. LocatesMembersError D x false (members_after_brace (depth - 1) s) mid) is (at left) in
      let h = now o.0 g.1 t.0 o.1 inner (rising o.0 t.0 inner t.1) (λ yes. cc) in
      let k = passed n g.2 r (subst (λ x. members (value depth) n x ≡ Some (g.2, r)) (sym h.0) g.4) in (
        k.0,
        subst (λ x. IsPlaceOfFault (first_fault_of_code D x) q) (sym (a.4 ∙ ap (λ x. member l x a.1) t.2))
            (scope_seen g.2 a.1 t.0 l p.value q a.3 h.1 k.1),
      )) out

  -- ---- the object of code and its scope

  code_found : (k l : List ℕ) (w : Wrapper) (s : List ℕ) (e : Data) (us : Members) → wrapper_of k ≡ Some w
      → (bytes_eq k (codes "$code") && bytes_eq l (codes "$scope")) ≡ true
      → fault_in_tree D (object (member k (tree.string s) (member l e us))) ≡ first_fault_of_code D (member l e us)
  code_found k l w s e no_members named are = by_wrapper D k w (tree.string s) (member l e no_members) named
      ∙ ap (λ b. cond b (code_fault (tree.string s) (scope_fault D e)) wrong_shape_here) are
  code_found k l w s e (member m f us) named are = by_wrapper D k w (tree.string s) (member l e (member m f us)) named

  pub code_placed : (e : TraversalError) (depth : ℕ) (k l s : List ℕ) (w : Wrapper) (ts r q rest : List Token) (held : Data)
      → wrapper_of k ≡ Some w → IsWrapperContent (converted of_json (value depth ts)) held r → read_key r ≡ Some (Some l, q)
      → (bytes_eq k (codes "$code") && bytes_eq l (codes "$scope")) ≡ true → held ≡ tree.string s
      → LocatesCodeError D false depth e q rest → LocatesObjectError D e (members_after_key depth (Some k) ts) rest
  code_placed e depth k l s w ts r q rest held named read key_is are text at = at_map e _ _ (λ x h ms end ds parsed rise of.
      let P = value depth in
      let j = from_tree of_json (P ts) read.0 r read.1 in
      let m = after_first P (length ts) k ts r end j.0 ms parsed j.1 in
      let o = one_behind P (length ts) r q end l m.0 key_is m.1 in
      let n = then_parsed (json.member l) (members P o.0) (P q) m.0 end o.1 in
      let a = split_kept (member k) (of_json j.0) (member_trees m.0) ds (subst (λ y. member_trees y ≡ Some ds) m.2 of) in
      let b = split_kept (member l) (of_json n.0) (member_trees n.2) a.1 (subst (λ y. member_trees y ≡ Some a.1) n.5 a.3) in
      let rises = subst MembersHaveAscendingKeys m.2 rise in
      let tree_is : a.0 ≡ read.0 = same_Some a.0 read.0 (sym a.2 ∙ j.2) in
      let string_is : a.0 ≡ tree.string s = tree_is ∙ a_text read.0 s (sym read.2.1 ∙ ap as_str text) in
      let same : fault_in_tree D (object ds) ≡ first_fault_of_code D a.1 =
      ap (λ y. fault_in_tree D (object y)) (a.4 ∙ ap (λ y. member k y a.1) string_is ∙ ap (member k (tree.string s)) b.4)
      ∙ code_found k l w s b.0 b.1 named are ∙ ap (first_fault_of_code D) (sym b.4) in
      let g = h o.0 l m.0 end a.1 o.1 rises.2 a.3 in
      (g.0, subst (λ v. IsPlaceOfFault v x) (sym same) g.1)) (at refl)

  not_a_string : (d : Data) (v : FaultAndPath) → as_str d ≡ None → code_fault d v ≡ wrong_shape_here
  not_a_string tree.null v is = refl
  not_a_string (tree.boolean b) v is = refl
  not_a_string (tree.number n) v is = refl
  not_a_string (tree.string s) v is = cc
  not_a_string (tree.array ds) v is = refl
  not_a_string (tree.object ms) v is = refl

  textless_found : (k l : List ℕ) (w : Wrapper) (d e : Data) (us : Members) (b : Bool) → wrapper_of k ≡ Some w
      → (bytes_eq k (codes "$code") && bytes_eq l (codes "$scope")) ≡ b → as_str d ≡ None
      → fault_in_tree D (object (member k d (member l e us))) ≡ wrong_shape_here
  textless_found k l w d e no_members true named are none = by_wrapper D k w d (member l e no_members) named
      ∙ ap (λ x. cond x (code_fault d (scope_fault D e)) wrong_shape_here) are ∙ not_a_string d (scope_fault D e) none
  textless_found k l w d e no_members false named are none = by_wrapper D k w d (member l e no_members) named
      ∙ ap (λ x. cond x (code_fault d (scope_fault D e)) wrong_shape_here) are
  textless_found k l w d e (member m f us) b named are none = by_wrapper D k w d (member l e (member m f us)) named

  pub textless_placed : (f : TraversalError) (depth : ℕ) (k l : List ℕ) (w : Wrapper) (ts r q rest : List Token) (held : Data)
      → wrapper_of k ≡ Some w → IsWrapperContent (converted of_json (value depth ts)) held r → read_key r ≡ Some (Some l, q)
      → as_str held ≡ None → IsWrongShapeAtValue depth q f rest → LocatesObjectError D f (members_after_key depth (Some k) ts) rest
  textless_placed f depth k l w ts r q rest held named read key_is none out = at_map f _ _ (λ x (shape, passed) ms end ds parsed rise of.
      let P = value depth in
      let j = from_tree of_json (P ts) read.0 r read.1 in
      let m = after_first P (length ts) k ts r end j.0 ms parsed j.1 in
      let o = one_behind P (length ts) r q end l m.0 key_is m.1 in
      let n = then_parsed (json.member l) (members P o.0) (P q) m.0 end o.1 in
      let a = split_kept (member k) (of_json j.0) (member_trees m.0) ds (subst (λ y. member_trees y ≡ Some ds) m.2 of) in
      let b = split_kept (member l) (of_json n.0) (member_trees n.2) a.1 (subst (λ y. member_trees y ≡ Some a.1) n.5 a.3) in
      let tree_is : a.0 ≡ read.0 = same_Some a.0 read.0 (sym a.2 ∙ j.2) in
      let is : as_str a.0 ≡ None = ap as_str tree_is ∙ sym read.2.1 ∙ none in
      let same : fault_in_tree D (object ds) ≡ wrong_shape_here =
      ap (λ y. fault_in_tree D (object y)) (a.4 ∙ ap (member k a.0) b.4)
      ∙ textless_found k l w a.0 b.0 b.1 (bytes_eq k (codes "$code") && bytes_eq l (codes "$scope")) named refl is in
      (passed o.0 l m.0 end o.1, placed_here (fault_in_tree D (object ds)) x shape same)) out
