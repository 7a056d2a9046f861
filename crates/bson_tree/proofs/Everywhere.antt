-- Each tree has a value, or a fault and the path to it.
use Rattle.std.proofs.Common.{◌≡◌, ℕ, ◌+◌, List, [], ◌∷◌, ◌++◌, Bool, true, false, None, Ok, Err}
use Rattle.std.proofs.Common.{Result, refl, sym, subst, ◌∙◌, ◌&&◌, ◌⊎◌, inl, inr}
use Rattle.std.specs.Prelude.{codes}
use Rattle.std.specs.Str.{bytes_eq}
use Rattle.std.proofs.lemmas.Bool.{and_parts}
use Rattle.std.proofs.lemmas.Slice.Eq.{bytes_eq-Decides}
use Rattle.serde_json.specs.Data.{Data, Num, Items, no_items, item, Members, no_members, member}
use Rattle.serde_json.specs.Data as tree
use Rattle.bson_scalar.specs.Faults.{Fault, wrong_shape}
use Rattle.bson_scalar.specs.Reading.{number_read_in, optional_wrapper_read_in}
use Rattle.bson_scalar.specs.Scalar.{Scalar}
use Rattle.bson_scalar.specs.Scalar as kind
use Rattle.bson_scalar.specs.Table.{wrapper_of, has_wrapper}
use Rattle.bson_scalar.specs.declared.form.Doubles.{Doubles}
use Rattle.bson_model.specs.Fault.{MeansNothingIn}
use Rattle.bson_model.specs.Reading.{reads_tree_in}
use Rattle.bson_model.specs.Value as model
use Rattle.bson_model.proofs.Offered.{means_to_in}
use Rattle.bson_tree.specs.Place.{PathSegment, key, element, FaultAtIn, ItemFaultAtIn, MemberFaultAtIn, HasValueIn}
use Rattle.bson_tree.specs.Place.{array, document, at_this_element, after_valid_element, at_key, after_valid_member}
use Rattle.bson_tree.proofs.Agrees.{fault_to}
use Rattle.bson_tree.proofs.FaultLaws.{nothing_read}
use Rattle.bson_tree.proofs.FaultLaws.{Coded}
use Rattle.bson_tree.proofs.Steps.{HasItems, HasPairs, number_value, no_number, array_value, document_value}
use Rattle.bson_tree.proofs.Steps.{value_of, lone_value, lone_fault, shape_fault, not_code, not_text, value_of_code}
use Rattle.bson_tree.proofs.Steps.{scope_path, scope_of_map}
use Rattle.bson_tree.proofs.Steps.{never, HasScopeIn, IsScopeFaultIn, in_scope, no_scope}

abbrev Or : Type 0 → (Fault → List PathSegment → Type 0) → Type 0
Or V A = V ⊎ ((f : Fault) × (path : List PathSegment) × A f path)

module _ (D : Doubles) where
  abbrev ValueOr : Data → Type 0
  ValueOr t = Or (HasValueIn D t) (λ f path. FaultAtIn D f t path)

  abbrev PairsOr : Members → Type 0
  PairsOr ms = Or (HasPairs D ms) (λ f path. MemberFaultAtIn D f ms path)

  abbrev ScopeOr : Data → Type 0
  ScopeOr e = Or (HasScopeIn D e) (IsScopeFaultIn D e)

  number_is : (n : Num) (r : Result Scalar Fault) → number_read_in D n ≡ r → ValueOr (tree.number n)
  number_is n (Ok x) h = inl (number_value D n x h)
  number_is n (Err f) h = inr (f, [], no_number D n f h)

  array_is : (ds : Items) → Or (HasItems D ds) (λ f path. ItemFaultAtIn D f 0 ds path) → ValueOr (tree.array ds)
  array_is ds (inl a) = inl (array_value D ds a)
  array_is ds (inr a) = inr (a.0, a.1, array ds a.2)

  items_are : (n : ℕ) (d : Data) (ds : Items) → ValueOr d
      → Or (HasItems D ds) (λ f path. ItemFaultAtIn D f (n + 1) ds path)
      → Or (HasItems D (item d ds)) (λ f path. ItemFaultAtIn D f n (item d ds) path)
  items_are n d ds (inl a) (inl b) = inl (model.value a.0 b.0, rw (means_to_in D a.1, b.1) refl)
  items_are n d ds (inl a) (inr b) = inr (b.0, b.1, after_valid_element n d a.0 ds a.1 b.2)
  items_are n d ds (inr a) b = inr (a.0, a.1 ++ element n ∷ [], at_this_element n d ds a.2)

  members_are : (k : List ℕ) (d : Data) (ms : Members) → ValueOr d → PairsOr ms → PairsOr (member k d ms)
  members_are k d ms (inl a) (inl b) = inl (model.pair k a.0 b.0, rw (means_to_in D a.1, b.1) refl)
  members_are k d ms (inl a) (inr b) = inr (b.0, b.1, after_valid_member k d a.0 ms a.1 b.2)
  members_are k d ms (inr a) b = inr (a.0, a.1 ++ key k ∷ [], at_key k d ms a.2)

  document_is : (ms : Members) → has_wrapper ms ≡ false → PairsOr ms → ValueOr (tree.object ms)
  document_is ms none (inl a) = inl (document_value D ms none a)
  document_is ms none (inr a) = inr (a.0, a.1, document ms none a.2)

  object_is : (ms : Members) (b : Bool) → has_wrapper ms ≡ b → PairsOr ms
      → (has_wrapper ms ≡ true → ValueOr (tree.object ms)) → ValueOr (tree.object ms)
  object_is ms true h pairs of_wrapper = of_wrapper h
  object_is ms false h pairs of_wrapper = document_is ms h pairs

  lone_is : (k : List ℕ) (d : Data) (r : Result Scalar Fault) → has_wrapper (member k d no_members) ≡ true
      → optional_wrapper_read_in D (wrapper_of k) d ≡ r → ValueOr (tree.object (member k d no_members))
  lone_is k d (Ok x) w h = inl (lone_value D k d x w h)
  lone_is k d (Err f) w h = inr (f, key k ∷ [], lone_fault D k d f w h)

  no_text : (d e : Data) → ((s : List ℕ) → d ≡ tree.string s → ⊥) → ValueOr (tree.object (Coded d e))
  no_text d e none = inr (wrong_shape, [], not_text D d e none)

  text_is : (s : List ℕ) (e : Data) → ScopeOr e → ValueOr (tree.object (Coded (tree.string s) e))
  text_is s e (inl a) = inl (value_of_code D (tree.string s) e s refl a)
  text_is s e (inr a) = inr (a.0, a.1, scope_path D (tree.string s) e s refl a.0 a.1 a.2)

  code_is : (d e : Data) → ScopeOr e → ValueOr (tree.object (Coded d e))
  code_is tree.null e scope = no_text tree.null e (λ s is. cc)
  code_is (tree.boolean b) e scope = no_text (tree.boolean b) e (λ s is. cc)
  code_is (tree.number n) e scope = no_text (tree.number n) e (λ s is. cc)
  code_is (tree.string s) e scope = text_is s e scope
  code_is (tree.array ds) e scope = no_text (tree.array ds) e (λ s is. cc)
  code_is (tree.object ms) e scope = no_text (tree.object ms) e (λ s is. cc)

  two_are : (k : List ℕ) (d : Data) (l : List ℕ) (e : Data) (b : Bool)
      → has_wrapper (member k d (member l e no_members)) ≡ true
      → (bytes_eq k (codes "$code") && bytes_eq l (codes "$scope")) ≡ b → ScopeOr e
      → ValueOr (tree.object (member k d (member l e no_members)))
  two_are k d l e true w h scope =
      let keys = and_parts _ _ h in
      let at_code : k ≡ codes "$code" = (bytes_eq-Decides _ _).0 keys.0 in
      let at_scope : l ≡ codes "$scope" = (bytes_eq-Decides _ _).0 keys.1 in
      rw (at_code, at_scope) (code_is d e scope)
  two_are k d l e false w h scope = inr (wrong_shape, [], not_code D k d l e w h)

  scope_map_is : (ms : Members) → PairsOr ms → ScopeOr (tree.object ms)
  scope_map_is ms (inl a) = inl (scope_of_map D ms a)
  scope_map_is ms (inr a) = inr (a.0, a.1 ++ key (codes "$scope") ∷ [], in_scope ms a.2)

  mutual
    pub value_or_fault : (t : Data) → ValueOr t
    value_or_fault tree.null = inl (value_of D tree.null (model.scalar kind.null) refl)
    value_or_fault (tree.boolean b) = inl (value_of D (tree.boolean b) (model.scalar (kind.boolean b)) refl)
    value_or_fault (tree.number n) = number_is n (number_read_in D n) refl
    value_or_fault (tree.string s) = inl (value_of D (tree.string s) (model.scalar (kind.text s)) refl)
    value_or_fault (tree.array ds) = array_is ds (items_or_fault 0 ds)
    value_or_fault (tree.object ms) = object_is ms (has_wrapper ms) refl (pairs_or_fault ms) (wrapper_or_fault ms)

    items_or_fault : (n : ℕ) (ds : Items) → Or (HasItems D ds) (λ f path. ItemFaultAtIn D f n ds path)
    items_or_fault n no_items = inl (model.no_values, refl)
    items_or_fault n (item d ds) = items_are n d ds (value_or_fault d) (items_or_fault (n + 1) ds)

    pairs_or_fault : (ms : Members) → PairsOr ms
    pairs_or_fault no_members = inl (model.no_pairs, refl)
    pairs_or_fault (member k d ms) = members_are k d ms (value_or_fault d) (pairs_or_fault ms)

    wrapper_or_fault : (ms : Members) → has_wrapper ms ≡ true → ValueOr (tree.object ms)
    wrapper_or_fault no_members w = cc
    wrapper_or_fault (member k d no_members) w = lone_is k d (optional_wrapper_read_in D (wrapper_of k) d) w refl
    wrapper_or_fault (member k d (member l e no_members)) w = two_are k d l e _ w refl (scope_or_fault e)
    wrapper_or_fault (member k d (member l e (member m f ms))) w =
        inr (wrong_shape, [], shape_fault D (member k d (member l e (member m f ms))) w (λ is. never is) refl)

    scope_or_fault : (e : Data) → ScopeOr e
    scope_or_fault tree.null = inl (None, refl)
    scope_or_fault (tree.boolean b) = inr (wrong_shape, [], no_scope (tree.boolean b) (λ ms is. cc) refl)
    scope_or_fault (tree.number n) = inr (wrong_shape, [], no_scope (tree.number n) (λ ms is. cc) refl)
    scope_or_fault (tree.string s) = inr (wrong_shape, [], no_scope (tree.string s) (λ ms is. cc) refl)
    scope_or_fault (tree.array ds) = inr (wrong_shape, [], no_scope (tree.array ds) (λ ms is. cc) refl)
    scope_or_fault (tree.object ms) = scope_map_is ms (pairs_or_fault ms)

  fault_left : (t : Data) → ValueOr t → MeansNothingIn D t → (f : Fault) × (path : List PathSegment) × FaultAtIn D f t path
  fault_left t (inl a) nothing = absurd (nothing a.0 a.1)
  fault_left t (inr a) nothing = a

  pub has_fault : (t : Data) → MeansNothingIn D t → (f : Fault) × (path : List PathSegment) × FaultAtIn D f t path
  has_fault t nothing = fault_left t (value_or_fault t) nothing

  -- the fault that reading gives has a path
  same_fault : {f g : Fault} (t : Data) (path : List PathSegment) → reads_tree_in D t ≡ Err f → FaultAtIn D g t path
      → FaultAtIn D f t path
  same_fault {f} {g} t path h m =
      let same : g ≡ f = (let reads = sym (fault_to D m) ∙ h in cc) in
      subst (λ x. FaultAtIn D x t path) same m

  pub read_fault : (t : Data) (f : Fault) → reads_tree_in D t ≡ Err f → (path : List PathSegment) × FaultAtIn D f t path
  read_fault t f h =
      let a = has_fault t (nothing_read D h) in
      (a.1, same_fault t a.1 h a.2)
