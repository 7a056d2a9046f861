-- The verdict of a tree is its meaning, or its first fault and the path to that.
use Rattle.std.proofs.Common.{◌≡◌, ℕ, ◌+◌, List, Bool, true, false, cond, Some, None, Ok, Err}
use Rattle.std.proofs.Common.{Result, refl, ◌&&◌}
use Rattle.std.specs.Prelude.{codes}
use Rattle.std.specs.Str.{bytes_eq}
use Rattle.std.proofs.lemmas.Bool.{and_parts}
use Rattle.std.proofs.lemmas.Slice.Eq.{bytes_eq-Decides}
use Rattle.serde_json.specs.Data.{Data, Num, Items, no_items, item, Members, no_members, member}
use Rattle.serde_json.specs.Data as tree
use Rattle.bson_scalar.specs.Faults.{Fault}
use Rattle.bson_scalar.specs.Reading.{number_read_in, optional_wrapper_read_in}
use Rattle.bson_scalar.specs.Scalar.{Scalar}
use Rattle.bson_scalar.specs.Scalar as kind
use Rattle.bson_scalar.specs.Table.{wrapper_of, has_wrapper}
use Rattle.bson_scalar.specs.declared.form.Doubles.{Doubles}
use Rattle.bson_model.proofs.Offered.{means_to_in}
use Rattle.bson_model.specs.Value as model
use Rattle.bson_tree.specs.Place.{PathSegment, key, element, FaultAtIn, ItemFaultAtIn, MemberFaultAtIn, HasValueIn}
use Rattle.bson_tree.specs.Place.{array, document}
use Rattle.bson_tree.specs.Place.{at_this_element as at_element, after_valid_element, at_key, after_valid_member}
use Rattle.bson_tree.proofs.Offered.{HasScopeIn, IsScopeFaultIn, in_scope, no_scope}
use Rattle.bson_tree.proofs.Offered.{HasItems, HasPairs, Coded, number_value, no_number, array_value, document_value}
use Rattle.bson_tree.proofs.Offered.{lone_fault, lone_value, not_code, not_text, value_of_code, scope_path}
use Rattle.bson_tree.proofs.Offered.{scope_of_map, never, shape_fault, value_of}
use Rattle.bson_tokens.specs.FirstFault.{FaultAndPath, fault_in_tree, first_item_fault, first_member_fault, wrapper_fault, scope_fault, or_fault, add_segment}
use Rattle.bson_tokens.specs.FirstFault.{wrong_shape_here, scalar_fault, code_fault}

-- there is none, or it has this place
abbrev pub Is : Type 0 → (Fault → List PathSegment → Type 0) → FaultAndPath → Type 0
Is P A None = P
Is P A (Some f) = A f.0 f.1

module _ (D : Doubles) where
  number_is : (n : Num) (r : Result Scalar Fault) → number_read_in D n ≡ r
      → Is (HasValueIn D (tree.number n)) (λ f path. FaultAtIn D f (tree.number n) path) (scalar_fault r)
  number_is n (Ok x) h = number_value D n x h
  number_is n (Err f) h = no_number D n f h

  array_is : (ds : Items) (v : FaultAndPath) → Is (HasItems D ds) (λ f path. ItemFaultAtIn D f 0 ds path) v
      → Is (HasValueIn D (tree.array ds)) (λ f path. FaultAtIn D f (tree.array ds) path) v
  array_is ds None h = array_value D ds h
  array_is ds (Some f) h = array ds h

  items_are : (n : ℕ) (d : Data) (ds : Items) (v w : FaultAndPath) → Is (HasValueIn D d) (λ f path. FaultAtIn D f d path) v
      → Is (HasItems D ds) (λ f path. ItemFaultAtIn D f (n + 1) ds path) w
      → Is (HasItems D (item d ds)) (λ f path. ItemFaultAtIn D f n (item d ds) path) (or_fault (add_segment (element n) v) w)
  items_are n d ds None None a b = (model.value a.0 b.0, rw (means_to_in D a.1, b.1) refl)
  items_are n d ds None (Some f) a b = after_valid_element n d a.0 ds a.1 b
  items_are n d ds (Some f) w a b = at_element n d ds a

  members_are : (k : List ℕ) (d : Data) (ms : Members) (v w : FaultAndPath)
      → Is (HasValueIn D d) (λ f path. FaultAtIn D f d path) v
      → Is (HasPairs D ms) (λ f path. MemberFaultAtIn D f ms path) w
      → Is (HasPairs D (member k d ms)) (λ f path. MemberFaultAtIn D f (member k d ms) path) (or_fault (add_segment (key k) v) w)
  members_are k d ms None None a b = (model.pair k a.0 b.0, rw (means_to_in D a.1, b.1) refl)
  members_are k d ms None (Some f) a b = after_valid_member k d a.0 ms a.1 b
  members_are k d ms (Some f) w a b = at_key k d ms a

  document_is : (ms : Members) (v : FaultAndPath) → has_wrapper ms ≡ false
      → Is (HasPairs D ms) (λ f path. MemberFaultAtIn D f ms path) v
      → Is (HasValueIn D (tree.object ms)) (λ f path. FaultAtIn D f (tree.object ms) path) v
  document_is ms None none h = document_value D ms none h
  document_is ms (Some f) none h = document ms none h

  abbrev ObjectIs : Members → FaultAndPath → Type 0
  ObjectIs ms v = Is (HasValueIn D (tree.object ms)) (λ f path. FaultAtIn D f (tree.object ms) path) v

  object_is : (ms : Members) (b : Bool) → has_wrapper ms ≡ b
      → Is (HasPairs D ms) (λ f path. MemberFaultAtIn D f ms path) (first_member_fault D ms)
      → (has_wrapper ms ≡ true → ObjectIs ms (wrapper_fault D ms))
      → ObjectIs ms (cond b (wrapper_fault D ms) (first_member_fault D ms))
  object_is ms true h in_turn wrapped = wrapped h
  object_is ms false h in_turn wrapped = document_is ms (first_member_fault D ms) h in_turn

  lone_is : (k : List ℕ) (d : Data) (r : Result Scalar Fault) → has_wrapper (member k d no_members) ≡ true
      → optional_wrapper_read_in D (wrapper_of k) d ≡ r → ObjectIs (member k d no_members) (add_segment (key k) (scalar_fault r))
  lone_is k d (Ok x) w h = lone_value D k d x w h
  lone_is k d (Err f) w h = lone_fault D k d f w h

  -- what is a scope at this key
  abbrev ScopeIs : Data → FaultAndPath → Type 0
  ScopeIs e v = Is (HasScopeIn D e) (IsScopeFaultIn D e) v

  scope_map_is : (ms : Members) (v : FaultAndPath) → Is (HasPairs D ms) (λ f path. MemberFaultAtIn D f ms path) v
      → ScopeIs (tree.object ms) (add_segment (key (codes "$scope")) v)
  scope_map_is ms None h = scope_of_map D ms h
  scope_map_is ms (Some f) h = in_scope ms h

  text_is : (s : List ℕ) (e : Data) (v : FaultAndPath) → ScopeIs e v → ObjectIs (Coded (tree.string s) e) v
  text_is s e None scope = value_of_code D (tree.string s) e s refl scope
  text_is s e (Some f) scope = scope_path D (tree.string s) e s refl f.0 f.1 scope

  code_is : (d e : Data) → ScopeIs e (scope_fault D e) → ObjectIs (Coded d e) (code_fault d (scope_fault D e))
  code_is tree.null e scope = not_text D tree.null e (λ s is. cc)
  code_is (tree.boolean b) e scope = not_text D (tree.boolean b) e (λ s is. cc)
  code_is (tree.number n) e scope = not_text D (tree.number n) e (λ s is. cc)
  code_is (tree.string s) e scope = text_is s e (scope_fault D e) scope
  code_is (tree.array ds) e scope = not_text D (tree.array ds) e (λ s is. cc)
  code_is (tree.object ms) e scope = not_text D (tree.object ms) e (λ s is. cc)

  two_are : (k : List ℕ) (d : Data) (l : List ℕ) (e : Data) (b : Bool)
      → has_wrapper (member k d (member l e no_members)) ≡ true
      → (bytes_eq k (codes "$code") && bytes_eq l (codes "$scope")) ≡ b → ScopeIs e (scope_fault D e)
      → ObjectIs (member k d (member l e no_members)) (cond b (code_fault d (scope_fault D e)) wrong_shape_here)
  two_are k d l e true w h scope =
      let keys = and_parts _ _ h in
      let at_code : k ≡ codes "$code" = (bytes_eq-Decides _ _).0 keys.0 in
      let at_scope : l ≡ codes "$scope" = (bytes_eq-Decides _ _).0 keys.1 in
      rw (at_code, at_scope) (code_is d e scope)
  two_are k d l e false w h scope = not_code D k d l e w h

  mutual
    pub is_found : (t : Data) → Is (HasValueIn D t) (λ f path. FaultAtIn D f t path) (fault_in_tree D t)
    is_found tree.null = value_of D tree.null (model.scalar kind.null) refl
    is_found (tree.boolean b) = value_of D (tree.boolean b) (model.scalar (kind.boolean b)) refl
    is_found (tree.number n) = number_is n (number_read_in D n) refl
    is_found (tree.string s) = value_of D (tree.string s) (model.scalar (kind.text s)) refl
    is_found (tree.array ds) = array_is ds (first_item_fault D 0 ds) (are_found 0 ds)
    is_found (tree.object ms) = object_is ms (has_wrapper ms) refl (in_found ms) (wrapper_found ms)

    are_found : (n : ℕ) (ds : Items) → Is (HasItems D ds) (λ f path. ItemFaultAtIn D f n ds path) (first_item_fault D n ds)
    are_found n no_items = (model.no_values, refl)
    are_found n (item d ds) = items_are n d ds (fault_in_tree D d) (first_item_fault D (n + 1) ds) (is_found d)
        (are_found (n + 1) ds)

    in_found : (ms : Members) → Is (HasPairs D ms) (λ f path. MemberFaultAtIn D f ms path) (first_member_fault D ms)
    in_found no_members = (model.no_pairs, refl)
    in_found (member k d ms) = members_are k d ms (fault_in_tree D d) (first_member_fault D ms) (is_found d) (in_found ms)

    wrapper_found : (ms : Members) → has_wrapper ms ≡ true → ObjectIs ms (wrapper_fault D ms)
    wrapper_found no_members w = cc
    wrapper_found (member k d no_members) w = lone_is k d (optional_wrapper_read_in D (wrapper_of k) d) w refl
    wrapper_found (member k d (member l e no_members)) w = two_are k d l e _ w refl (scope_found e)
    wrapper_found (member k d (member l e (member m f ms))) w =
        shape_fault D (member k d (member l e (member m f ms))) w (λ is. never is) refl

    scope_found : (e : Data) → ScopeIs e (scope_fault D e)
    scope_found tree.null = (None, refl)
    scope_found (tree.boolean b) = no_scope (tree.boolean b) (λ ms is. cc) refl
    scope_found (tree.number n) = no_scope (tree.number n) (λ ms is. cc) refl
    scope_found (tree.string s) = no_scope (tree.string s) (λ ms is. cc) refl
    scope_found (tree.array ds) = no_scope (tree.array ds) (λ ms is. cc) refl
    scope_found (tree.object ms) = scope_map_is ms (first_member_fault D ms) (in_found ms)
