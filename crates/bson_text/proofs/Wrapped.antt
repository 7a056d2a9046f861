-- The first fault of scalars, wrappers and documents.
use Rattle.std.proofs.Common.{◌≡◌, ℕ, zero, suc, ◌-◌, ◌<◌, List, ◌∷◌, length, Option, Some, None}
use Rattle.std.proofs.Common.{Ok, Bool, true, false, option_and_then, refl, sym, ap, ◌∙◌, subst}
use Rattle.std.proofs.Common.{codes, ◌&&◌, ◌||◌, bytes_eq, is_some, cond}
use Rattle.std.proofs.lemmas.Option.{same_Some}
use Rattle.json.specs.Json as json
use Rattle.json.specs.Json.{Parse, read_key, items, members, members_step, value}
use Rattle.json.specs.Token as token
use Rattle.json.specs.Token.{Token}
use Rattle.json.proofs.Grammar.{value_is, value-begin_array, value-begin_object}
use Rattle.serde_json.specs.Data.{Data, Num, Members, no_members, member, object}
use Rattle.serde_json.specs.Data as tree
use Rattle.serde_json.specs.Read.{of_json, converted, number_of}
use Rattle.bson_scalar.specs.Faults.{Fault}
use Rattle.bson_scalar.specs.Reading.{number_read_in, optional_wrapper_read_in, wrapper_read_in}
use Rattle.bson_scalar.specs.Table.{wrapper_of, has_wrapper}
use Rattle.bson_scalar.specs.declared.form.Doubles.{Doubles}
use Rattle.bson_scalar.specs.declared.wrapper.Wrapper.{Wrapper}
use Rattle.bson_tree.specs.Place.{key, PathSegment, path_of, FaultAtIn, HasValueIn, IsFirstFaultIn}
use Rattle.bson_tree.proofs.Offered.{first_found}
use Rattle.bson_tokens.proofs.Offered.{Is, is_found}
use Rattle.bson_tree.specs.declared.place.Place.{Place}
use Rattle.bson_tokens.specs.FirstFault.{FaultAndPath, fault_in_tree, first_member_fault, wrapper_fault, or_fault, add_segment, wrong_shape_here, scalar_fault}
use Rattle.bson_tokens.specs.WrapperContent.{IsWrapperContent}
use Rattle.bson_tokens.proofs.Offered.{was_read as from_tree}
use Rattle.bson_text.specs.TraversalResults.{members_after_brace, members_after_key}
use Rattle.bson_text.proofs.Objects.{begins}
use Rattle.bson_text.proofs.Denials.{then_parsed, split_kept, mapped}
use Rattle.bson_text.proofs.Parsed.{same_parse, after_first, none_behind}
use Rattle.bson_text.specs.ErrorPaths.{member_trees, FirstKeyIsNotWrapper, IfErrorIsFault, IsPlaceOfFault, IsScalarFault}
use Rattle.bson_text.specs.ErrorPaths.{IsWrongShapeAtValue, IsErrorAtKey, IsNotFault, LocatesValueError, LocatesItemsError, LocatesMembersError, LocatesObjectError}
use Rattle.json.specs.declared.error.Error.{Error}
use Rattle.json.specs.declared.error.Error.TheVariants as json_error
use Rattle.bson_text.specs.TraversalErrors.{error_of_json}
use Rattle.bson_text.specs.declared.traversal_error.TraversalError.{TraversalError}
use Rattle.bson_text.specs.declared.traversal_error.TraversalError.TheVariants as failure
use Rattle.bson_text.proofs.Passing.{at_map, members_off}
use Rattle.bson_text.proofs.Faults.{placed_within, placed_here, MembersFrom, wrapped, array_placed, object_placed}

pub no_fault : (e : TraversalError) (P : Place → Type 0) → IsNotFault e → IfErrorIsFault e P
no_fault failure.OutOfMemory P h = tt
no_fault failure.DuplicateKey P h = tt
no_fault failure.GaveUp P h = tt
no_fault failure.Syntax P h = tt
no_fault (failure.Fault q) P h = absurd h

pub reader_stop : (e : Error) (P : Place → Type 0) → IfErrorIsFault (error_of_json e) P
reader_stop json_error.Invalid P = tt
reader_stop json_error.OutOfMemory P = tt
reader_stop json_error.TooLong P = tt
reader_stop json_error.DuplicateKey P = tt

pub or_nothing : (v : FaultAndPath) → v ≡ or_fault v None
or_nothing None = refl
or_nothing (Some f) = refl

-- ---- what was parsed

pub one_behind : (p : Parse json.Json) (n : ℕ) (r q rest : List Token) (l : List ℕ) (ns : json.Members)
    → read_key r ≡ Some (Some l, q) → members p n r ≡ Some (ns, rest)
    → (m : ℕ) × (members_step p (members p m) (Some l) q ≡ Some (ns, rest))
unfolding members
one_behind p zero r q rest l ns named is = cc
one_behind p (suc n) r q rest l ns named is =
    (n, sym (ap (option_and_then (λ x. members_step p (members p n) x.0 x.1)) named) ∙ is)

first_plain : (depth : ℕ) (first : Option (List ℕ)) (s r : List Token) (ms : json.Members)
    → members_after_key depth first s ≡ Some (ms, r) → ((k : List ℕ) → first ≡ Some k → wrapper_of k ≡ None) → FirstKeyIsNotWrapper ms
first_plain depth None s r ms is plain =
    let same : (json.no_members, s) ≡ (ms, r) = same_Some {A = json.Members × List Token} (json.no_members, s) (ms, r) is in
    subst FirstKeyIsNotWrapper (ap (λ p. p.0) same) tt
first_plain depth (Some k) s r ms is plain =
    let g = then_parsed (json.member k) (members (value depth) (length s)) (value depth s) ms r is in
    subst FirstKeyIsNotWrapper (sym g.5) (plain k refl)

module _ (D : Doubles) where
  -- ---- numbers

  pub number_placed : (e : TraversalError) (depth : ℕ) (s : List ℕ) (ts r : List Token) → ts ≡ token.number s ∷ r
      → ((n : Num) → number_of s ≡ Some n → IsScalarFault (number_read_in D n) e) → LocatesValueError D e (value depth ts) r
  number_placed failure.OutOfMemory depth s ts r starts at = tt
  number_placed failure.DuplicateKey depth s ts r starts at = tt
  number_placed failure.GaveUp depth s ts r starts at = tt
  number_placed failure.Syntax depth s ts r starts at = tt
  number_placed (failure.Fault q) depth s ts r starts at = λ j rest t is rise of.
      let read : value depth ts ≡ Some (json.number s, r) = ap (value depth) starts ∙ value_is depth (token.number s ∷ r) in
      let same = same_parse (value depth ts) j (json.number s) rest r is read in
      let a = mapped tree.number (number_of s) t (subst (λ x. of_json x ≡ Some t) same.0 of) in
      (sym same.1, subst (λ x. IsPlaceOfFault (fault_in_tree D x) q.value) (sym a.2) (at a.0 a.1))

  -- ---- documents

  pub document_placed : (e : TraversalError) (depth : ℕ) (first : Option (List ℕ)) (ts s rest : List Token)
      → read_key ts ≡ Some (first, s) → ((k : List ℕ) → first ≡ Some k → wrapper_of k ≡ None)
      → LocatesMembersError D e true (members_after_key depth first s) rest → LocatesObjectError D e (members_after_brace depth ts) rest
  document_placed e depth first ts s rest named plain = at_map e _ _ (λ q at ms r ds is rise of.
      let now : members_after_key depth first s ≡ Some (ms, r) = sym (begins depth first ts s named) ∙ is in
      at ms r ds now rise of (λ yes. first_plain depth first s r ms now plain))

  pub misplaced_placed : (e : TraversalError) (b : Bool) (whole : Option (json.Members × List Token)) (depth n : ℕ) (k : List ℕ)
      (ts rest : List Token) → (b && is_some (wrapper_of k)) ≡ true
      → MembersFrom D b whole (members_step (value depth) (members (value depth) n) (Some k) ts)
      → IsWrongShapeAtValue depth ts e rest → LocatesMembersError D e b whole rest
  misplaced_placed e false whole depth n k ts rest bad from out = cc
  misplaced_placed e true whole depth n k ts rest bad from out = at_map e _ _ (λ q (shape, passed) ms r ds is rise of first.
      let g = from ms r ds is rise of in
      let m = then_parsed (json.member k) (members (value depth) n) (value depth ts) g.0 r g.2 in
      let a = split_kept (member k) (of_json m.0) (member_trees m.2) g.1 (subst (λ x. member_trees x ≡ Some g.1) m.5 g.4) in
      let has : has_wrapper ds ≡ true = g.6 refl ∙ ap has_wrapper a.4 ∙ ap (λ x. x || has_wrapper a.1) bad in
      (passed n k g.0 r g.2, placed_here (fault_in_tree D (object ds)) q shape (wrapped D ms ds of (first refl) has))) out

  -- ---- wrappers

  pub by_wrapper : (k : List ℕ) (w : Wrapper) (d : Data) (us : Members) → wrapper_of k ≡ Some w
      → fault_in_tree D (object (member k d us)) ≡ wrapper_fault D (member k d us)
  by_wrapper k w d us named =
      ap (λ o. cond (is_some o || has_wrapper us) (wrapper_fault D (member k d us)) (first_member_fault D (member k d us))) named

  lone : (k : List ℕ) (w : Wrapper) (d : Data) → wrapper_of k ≡ Some w
      → fault_in_tree D (object (member k d no_members)) ≡ add_segment (key k) (scalar_fault (wrapper_read_in D w d))
  lone k w d named = by_wrapper k w d no_members named
      ∙ ap (λ o. add_segment (key k) (scalar_fault (optional_wrapper_read_in D o d))) named

  pub alone_placed : (e f : TraversalError) (depth : ℕ) (k : List ℕ) (w : Wrapper) (ts r s : List Token) (held : Data)
      → wrapper_of k ≡ Some w → IsWrapperContent (converted of_json (value depth ts)) held r → read_key r ≡ Some (None, s)
      → IsScalarFault (wrapper_read_in D w held) e → IsErrorAtKey k e f → LocatesObjectError D f (members_after_key depth (Some k) ts) s
  alone_placed e f depth k w ts r s held named read ended at out = at_map f _ _ (λ q (p, is, further) ms rest ds parsed rise of.
      let P = value depth in
      let j = from_tree of_json (P ts) read.0 r read.1 in
      let m = after_first P (length ts) k ts r rest j.0 ms parsed j.1 in
      let off = members_off P (length ts) r s rest m.0 ended m.1 in
      let none = none_behind P (length ts) r s rest m.0 ended m.1 in
      let all : ms ≡ json.member k j.0 json.no_members = m.2 ∙ ap (json.member k j.0) none in
      let a = split_kept (member k) (of_json j.0) (member_trees json.no_members) ds (subst (λ x. member_trees x ≡ Some ds) all of) in
      let end : a.1 ≡ no_members = sym (same_Some no_members a.1 a.3) in
      let tree_is : a.0 ≡ read.0 = same_Some a.0 read.0 (sym a.2 ∙ j.2) in
      let now = subst (IsScalarFault (wrapper_read_in D w held)) is at in
      let same : fault_in_tree D (object ds) ≡ add_segment (key k) (scalar_fault (wrapper_read_in D w held)) =
      ap (λ x. fault_in_tree D (object x)) (a.4 ∙ ap (member k a.0) end ∙ ap (λ x. member k x no_members) tree_is)
      ∙ lone k w read.0 named ∙ ap (λ x. add_segment (key k) (scalar_fault x)) (sym (read.2.0 D (Some w))) in (
        off.0,
        placed_within (scalar_fault (wrapper_read_in D w held)) (fault_in_tree D (object ds)) (key k) None p.value q now further
            (same ∙ or_nothing (add_segment (key k) (scalar_fault (wrapper_read_in D w held)))),
      )) out

  cond_here : (b : Bool) (v : FaultAndPath) → b ≡ false → cond b v wrong_shape_here ≡ wrong_shape_here
  cond_here b v h = ap (λ x. cond x v wrong_shape_here) h

  two_found : (k l : List ℕ) (w : Wrapper) (d e : Data) (us : Members) → wrapper_of k ≡ Some w
      → (bytes_eq k (codes "$code") && bytes_eq l (codes "$scope")) ≡ false
      → fault_in_tree D (object (member k d (member l e us))) ≡ wrong_shape_here
  two_found k l w d e no_members named are = by_wrapper k w d (member l e no_members) named ∙ cond_here _ _ are
  two_found k l w d e (member m f us) named are = by_wrapper k w d (member l e (member m f us)) named

  pub strange_placed : (f : TraversalError) (depth : ℕ) (k l : List ℕ) (w : Wrapper) (ts r q rest : List Token) (held : Data)
      → wrapper_of k ≡ Some w → IsWrapperContent (converted of_json (value depth ts)) held r → read_key r ≡ Some (Some l, q)
      → (bytes_eq k (codes "$code") && bytes_eq l (codes "$scope")) ≡ false → IsWrongShapeAtValue depth q f rest
      → LocatesObjectError D f (members_after_key depth (Some k) ts) rest
  strange_placed f depth k l w ts r q rest held named read key_is are out = at_map f _ _ (λ x (shape, passed) ms end ds parsed rise of.
      let P = value depth in
      let j = from_tree of_json (P ts) read.0 r read.1 in
      let m = after_first P (length ts) k ts r end j.0 ms parsed j.1 in
      let o = one_behind P (length ts) r q end l m.0 key_is m.1 in
      let n = then_parsed (json.member l) (members P o.0) (P q) m.0 end o.1 in
      let all : ms ≡ json.member k j.0 (json.member l n.0 n.2) = m.2 ∙ ap (json.member k j.0) n.5 in
      let a = split_kept (member k) (of_json j.0) (member_trees (json.member l n.0 n.2)) ds (subst (λ y. member_trees y ≡ Some ds) all of) in
      let b = split_kept (member l) (of_json n.0) (member_trees n.2) a.1 a.3 in
      let same : fault_in_tree D (object ds) ≡ wrong_shape_here =
      ap (λ y. fault_in_tree D (object y)) (a.4 ∙ ap (member k a.0) b.4) ∙ two_found k l w a.0 b.0 b.1 named are in
      (passed o.0 l m.0 end o.1, placed_here (fault_in_tree D (object ds)) x shape same)) out

  -- ---- values

  pub array_at : (e : TraversalError) (depth : ℕ) (ts s rest : List Token) → ts ≡ token.begin_array ∷ s → 0 < depth
      → LocatesItemsError D e (items (value (depth - 1)) (length s) s) rest → LocatesValueError D e (value depth ts) rest
  array_at e depth ts s rest starts left at =
      subst (λ x. LocatesValueError D e x rest) (sym (ap (value depth) starts ∙ value-begin_array depth s left))
      (array_placed D e (items (value (depth - 1)) (length s) s) rest at)

  pub object_at : (e : TraversalError) (depth : ℕ) (ts s rest : List Token) → ts ≡ token.begin_object ∷ s → 0 < depth
      → LocatesObjectError D e (members_after_brace (depth - 1) s) rest → LocatesValueError D e (value depth ts) rest
  object_at e depth ts s rest starts left at =
      subst (λ x. LocatesValueError D e x rest) (sym (ap (value depth) starts ∙ value-begin_object depth s left))
      (object_placed D e (members_after_brace (depth - 1) s) rest at)

  -- ---- the place of the verdict is that of the first fault

  at_verdict : (t : Data) (v : FaultAndPath) (f : Fault) (path : List PathSegment)
      → Is (HasValueIn D t) (λ g p. FaultAtIn D g t p) v → v ≡ Some (f, path) → FaultAtIn D f t path
  at_verdict t None f path h is = cc
  at_verdict t (Some g) f path h is =
      subst (λ x. FaultAtIn D x.0 t x.1) (same_Some {A = Fault × List PathSegment} g (f, path) is) h

  pub first_fault : (t : Data) (place : Place) → IsPlaceOfFault (fault_in_tree D t) place → IsFirstFaultIn D t place
  first_fault t place is =
      first_found D t (Ok (Some place)) (record {
        fault = is.fault;
        path = at_verdict t (fault_in_tree D t) is.fault (path_of place) (is_found D t) is.path;
        reason = is.reason;
      })
