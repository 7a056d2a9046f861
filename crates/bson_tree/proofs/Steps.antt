-- Places of what a tree holds are places of the tree.
use Rattle.std.proofs.Common.{◌≡◌, ℕ, List, [], ◌∷◌, ◌++◌, Bool, true, false, cond, Option, Some, None}
use Rattle.std.proofs.Common.{Result, Ok, Err, ◌&&◌, refl, sym, ap, subst, ◌∙◌, rules, length, string_bytes}
use Rattle.std.proofs.Common.{String, Global}
use Rattle.std.specs.Prelude.{codes}
use Rattle.std.specs.Str.{bytes_eq}
use Rattle.std.proofs.lemmas.Bool.{and_parts}
use Rattle.std.proofs.lemmas.List.{nil_from_length}
use Rattle.std.proofs.lemmas.Slice.Eq.{bytes_eq-Decides}
use Rattle.serde_json.specs.Data.{Data, Num, Items, Members, no_members, member}
use Rattle.serde_json.specs.Data as tree
use Rattle.bson_scalar.specs.Faults.{Fault, wrong_shape, ◌>>=◌}
use Rattle.serde_json.specs.View.{view, number_view, members_view}
use Rattle.serde_json.specs.declared.number.Number.{Number}
use Rattle.serde_json.specs.declared.value.Value.{Value as Tree, the_lemmas}
use Rattle.serde_json.specs.declared.value.Value.TheVariants as declared
use Rattle.serde_json.specs.Find.{as_str, as_object}
use Rattle.bson_scalar.specs.Reading.{number_read_in, optional_wrapper_read_in}
use Rattle.bson_scalar.specs.Scalar.{Scalar}
use Rattle.bson_scalar.specs.Table.{wrapper_of, has_wrapper}
use Rattle.bson_scalar.specs.declared.form.Doubles.{Doubles}
use Rattle.bson_model.specs.Reading.{reads_tree_in, reads_items_in, reads_members_in, reads_wrapper_in, reads_scope_in}
use Rattle.bson_model.specs.Reading.{scalar_result_as_value, code_with_scope_read, code_value, scope_value}
use Rattle.bson_model.specs.Value.{Value, Values, Pairs}
use Rattle.bson_model.specs.Value as model
use Rattle.bson_tree.specs.declared.place.Place.{Place}
use Rattle.bson_tree.specs.declared.place.Reason.{Reason}
use Rattle.bson_tree.specs.Place.{PathSegment, key, path_of, FaultAtIn, ItemFaultAtIn, MemberFaultAtIn, number}
use Rattle.bson_tree.specs.Place.{array, document, wrapper, scope, shape, HasValueIn, IsReasonOfFault, IsFaultPlace, HasWrapperKeys}
use Rattle.bson_tree.specs.Place.{code_with_scope}
use Rattle.bson_tree.specs.Built.{Builds}
use Rattle.bson_model.proofs.Offered.{means_from_in}
use Rattle.bson_tree.proofs.FaultLaws.{Coded, nothing_read, number_fault, other_keys, wrapped, wrapper_fault}

-- what a map has
abbrev pub Member : Type 0
Member = String Global × Tree

-- ---- what a value denotes

pub view_number : (n : Number) → view (declared.Number n) ≡ tree.number (number_view n)
view_number n = search (rules, the_lemmas)

-- ---- places

-- the same reason at a path that leads through one more segment
pub carried : {A B : Fault → List PathSegment → Type 0} (p q : Place) (t : PathSegment)
    → ((f : Fault) (path : List PathSegment) → A f path → B f (path ++ t ∷ []))
    → path_of q ≡ path_of p ++ t ∷ [] → q.reason ≡ p.reason → IsFaultPlace A p → IsFaultPlace B q
carried {A} {B} p q t f path reason is = record {
  fault = is.fault;
  path = subst (B is.fault) (sym path) (f is.fault (path_of p) is.path);
  reason = subst (IsReasonOfFault is.fault) (sym reason) is.reason;
}

-- the same place, seen from further out
with_place : {A B : Fault → List PathSegment → Type 0} (p : Place) → ((f : Fault) (path : List PathSegment) → A f path → B f path)
    → IsFaultPlace A p → IsFaultPlace B p
with_place p f is = record { fault = is.fault; path = f is.fault (path_of p) is.path; reason = is.reason }

-- a place at a tree itself
pub at_once : {A : Fault → List PathSegment → Type 0} (p : Place) → IsReasonOfFault wrong_shape p.reason → path_of p ≡ []
    → A wrong_shape [] → IsFaultPlace A p
at_once {A} p reason path a = record { fault = wrong_shape; path = subst (A wrong_shape) (sym path) a; reason = reason }

-- what was built, where it is that
pub built_in : {X Y : Type 0} (represents : X → Y → Type 0) (read : Result Y Fault) (lies : Fault → List PathSegment → Type 0)
    (r : Result X Place) (x : X) → r ≡ Ok x → Builds represents read lies r → (y : Y) × (read ≡ Ok y) × represents x y
built_in represents read lies r x is h = subst (Builds represents read lies) is h

-- the place, where it is that
pub placed_in : {X Y : Type 0} (represents : X → Y → Type 0) (read : Result Y Fault) (lies : Fault → List PathSegment → Type 0)
    (r : Result X Place) (p : Place) → r ≡ Err p → Builds represents read lies r → IsFaultPlace lies p
placed_in represents read lies r p is h = subst (Builds represents read lies) is h

-- ---- what a list, a map and a scope are read as

abbrev pub HasItems : Doubles → Items → Type 0
HasItems D ds = (vs : Values) × (reads_items_in D ds ≡ Ok vs)

abbrev pub HasPairs : Doubles → Members → Type 0
HasPairs D ms = (ps : Pairs) × (reads_members_in D ms ≡ Ok ps)

abbrev pub HasScopeIn : Doubles → Data → Type 0
HasScopeIn D d = (ps : Option Pairs) × (reads_scope_in D d ≡ Ok ps)

-- why a tree is no scope, and the path from the fault to the object that it is in
pub data IsScopeFaultIn (D : Doubles) : Data → Fault → List PathSegment → Type 0 where
  in_scope : {f : Fault} {path : List PathSegment} (ms : Members) → MemberFaultAtIn D f ms path
      → IsScopeFaultIn D (tree.object ms) f (path ++ key (codes "$scope") ∷ [])
  no_scope : (d : Data) → ((ms : Members) → d ≡ tree.object ms → ⊥) → reads_scope_in D d ≡ Err wrong_shape
      → IsScopeFaultIn D d wrong_shape []

-- ---- a map of two keys and of more

-- two keys that are not those of code and its scope
not_open_by_keys : (k : List ℕ) (d : Data) (l : List ℕ) (e : Data)
    → (bytes_eq k (codes "$code") && bytes_eq l (codes "$scope")) ≡ false → HasWrapperKeys (member k d (member l e no_members))
    → ⊥
not_open_by_keys k d l e h (code_with_scope s ms) = cc

not_open_by_code : (d e : Data) → ((s : List ℕ) → d ≡ tree.string s → ⊥) → HasWrapperKeys (Coded d e) → ⊥
not_open_by_code d e h (code_with_scope s ms) = h s refl

not_open_by_scope : (d e : Data) → ((ms : Members) → e ≡ tree.object ms → ⊥) → HasWrapperKeys (Coded d e) → ⊥
not_open_by_scope d e h (code_with_scope s ms) = h ms refl

no_string : (d : Data) → as_str d ≡ None → (s : List ℕ) → d ≡ tree.string s → ⊥
no_string d none s is = let some = sym (ap as_str is) ∙ none in cc

no_object : (d : Data) → as_object d ≡ None → (ms : Members) → d ≡ tree.object ms → ⊥
no_object d none ms is = let some = sym (ap as_object is) ∙ none in cc

pub never : {k l m : List ℕ} {c d e : Data} {ms : Members} → HasWrapperKeys (member k c (member l d (member m e ms))) → ⊥
never is = elim is [ ]

two_entries : {X : Type 0} (es mid rest : List X) (x y : X) → es ≡ x ∷ mid → mid ≡ y ∷ rest → length rest ≡ 0
    → es ≡ x ∷ y ∷ []
two_entries es mid rest x y is next none =
    is ∙ ap (λ l. x ∷ l) (next ∙ ap (λ l. y ∷ l) (nil_from_length rest none))

-- the keys are those of code and its scope
abbrev pub has_code_keys : Member → Member → Bool
has_code_keys x y = bytes_eq (string_bytes x.0) (codes "$code") && bytes_eq (string_bytes y.0) (codes "$scope")

pub coded : (es mid rest : List Member) (x y : Member) → es ≡ x ∷ mid → mid ≡ y ∷ rest → length rest ≡ 0
    → has_code_keys x y ≡ true → Coded (view x.1) (view y.1) ≡ members_view es
coded es mid rest x y is next none keys =
    let two = and_parts _ _ keys in
    let at_code : codes "$code" ≡ string_bytes x.0 = sym ((bytes_eq-Decides _ _).0 two.0) in
    let at_scope : codes "$scope" ≡ string_bytes y.0 = sym ((bytes_eq-Decides _ _).0 two.1) in
    rw (at_code, at_scope) (ap members_view (sym (two_entries es mid rest x y is next none)))

module _ (D : Doubles) where
  -- ---- values

  -- what is read is the meaning
  pub value_of : (t : Data) (v : Value) → reads_tree_in D t ≡ Ok v → HasValueIn D t
  value_of t v h = (v, means_from_in D t v h)

  pub number_value : (n : Num) (x : Scalar) → number_read_in D n ≡ Ok x → HasValueIn D (tree.number n)
  number_value n x h = value_of (tree.number n) (model.scalar x) (ap scalar_result_as_value h)

  pub no_number : (n : Num) (f : Fault) → number_read_in D n ≡ Err f → FaultAtIn D f (tree.number n) []
  no_number n f h =
      let is = number_fault D n f h in
      subst (λ g. FaultAtIn D g (tree.number n) []) (sym is) (number n (nothing_read D (ap scalar_result_as_value h)))

  -- the reason of a number
  pub number_place : (n : Num) (f : Fault) (e : Reason) (p : Place) → number_read_in D n ≡ Err f → IsReasonOfFault f e
      → path_of p ≡ [] → p.reason ≡ e → IsFaultPlace (λ g. FaultAtIn D g (tree.number n)) p
  number_place n f e p h is path reason = record {
    fault = f;
    path = subst (FaultAtIn D f (tree.number n)) (sym path) (no_number n f h);
    reason = subst (IsReasonOfFault f) (sym reason) is;
  }

  -- ---- arrays and documents

  pub array_value : (ds : Items) → HasItems D ds → HasValueIn D (tree.array ds)
  array_value ds vs = value_of (tree.array ds) (model.array vs.0) (ap (λ r. r >>= λ ws. Ok (model.array ws)) vs.1)

  -- the place of a fault in a list is that of the list's tree
  pub array_place : {X : Type 0} (listed : X → Values → Type 0) (ds : Items) (r : Result X Place) (p : Place)
      → r ≡ Err p → Builds listed (reads_items_in D ds) (λ f. ItemFaultAtIn D f 0 ds) r
      → IsFaultPlace (λ f. FaultAtIn D f (tree.array ds)) p
  array_place listed ds r p is h =
      with_place p (λ f path m. array ds m) (placed_in listed (reads_items_in D ds) (λ f. ItemFaultAtIn D f 0 ds) r p is h)

  pub document_value : (ms : Members) → has_wrapper ms ≡ false → HasPairs D ms → HasValueIn D (tree.object ms)
  document_value ms none ps =
      value_of (tree.object ms) (model.document ps.0)
      (ap (λ b. cond b (reads_wrapper_in D ms) (reads_members_in D ms >>= λ qs. Ok (model.document qs))) none
      ∙ ap (λ r. r >>= λ qs. Ok (model.document qs)) ps.1)

  pub document_place : {X : Type 0} (paired : X → Pairs → Type 0) (ms : Members) (r : Result X Place) (p : Place)
      → has_wrapper ms ≡ false → r ≡ Err p → Builds paired (reads_members_in D ms) (λ f. MemberFaultAtIn D f ms) r
      → IsFaultPlace (λ f. FaultAtIn D f (tree.object ms)) p
  document_place paired ms r p none is h =
      with_place p (λ f path m. document ms none m)
      (placed_in paired (reads_members_in D ms) (λ f. MemberFaultAtIn D f ms) r p is h)

  -- ---- wrappers

  pub lone_value : (k : List ℕ) (d : Data) (x : Scalar) → has_wrapper (member k d no_members) ≡ true
      → optional_wrapper_read_in D (wrapper_of k) d ≡ Ok x → HasValueIn D (tree.object (member k d no_members))
  lone_value k d x h e =
      value_of (tree.object (member k d no_members)) (model.scalar x)
      (wrapped D (member k d no_members) h ∙ ap scalar_result_as_value e)

  -- what reading finds at the key of a wrapper
  pub lone_fault : (k : List ℕ) (d : Data) (f : Fault) → has_wrapper (member k d no_members) ≡ true
      → optional_wrapper_read_in D (wrapper_of k) d ≡ Err f → FaultAtIn D f (tree.object (member k d no_members)) (key k ∷ [])
  lone_fault k d f w h = wrapper k d w (wrapper_fault D k d f w h)

  -- an object that is read as one of the wrong shape
  pub shape_fault : (ms : Members) → has_wrapper ms ≡ true → (HasWrapperKeys ms → ⊥)
      → reads_wrapper_in D ms ≡ Err wrong_shape → FaultAtIn D wrong_shape (tree.object ms) []
  shape_fault ms w o h = shape ms w o (nothing_read D (wrapped D ms w ∙ h))

  -- the reason at a wrapper's key
  pub lone_place : (k : List ℕ) (d : Data) (f : Fault) (e : Reason) (p : Place)
      → has_wrapper (member k d no_members) ≡ true → optional_wrapper_read_in D (wrapper_of k) d ≡ Err f → IsReasonOfFault f e
      → path_of p ≡ key k ∷ [] → p.reason ≡ e → IsFaultPlace (λ g. FaultAtIn D g (tree.object (member k d no_members))) p
  lone_place k d f e p w h is path reason = record {
    fault = f;
    path = subst (λ x. FaultAtIn D f (tree.object (member k d no_members)) x) (sym path) (lone_fault k d f w h);
    reason = subst (IsReasonOfFault f) (sym reason) is;
  }

  pub not_code : (k : List ℕ) (d : Data) (l : List ℕ) (e : Data)
      → has_wrapper (member k d (member l e no_members)) ≡ true
      → (bytes_eq k (codes "$code") && bytes_eq l (codes "$scope")) ≡ false
      → FaultAtIn D wrong_shape (tree.object (member k d (member l e no_members))) []
  not_code k d l e w h =
      let ms = member k d (member l e no_members) in
      shape_fault ms w (not_open_by_keys k d l e h) (other_keys k d l (reads_scope_in D e) h)

  no_code_text : (d e : Data) → ((s : List ℕ) → d ≡ tree.string s → ⊥)
      → code_with_scope_read (codes "$code") d (codes "$scope") (reads_scope_in D e) ≡ Err wrong_shape
  no_code_text tree.null e h = refl
  no_code_text (tree.boolean b) e h = refl
  no_code_text (tree.number n) e h = refl
  no_code_text (tree.string s) e h = absurd (h s refl)
  no_code_text (tree.array ds) e h = refl
  no_code_text (tree.object ms) e h = refl

  pub not_text : (d e : Data) → ((s : List ℕ) → d ≡ tree.string s → ⊥)
      → FaultAtIn D wrong_shape (tree.object (Coded d e)) []
  not_text d e h = shape_fault (Coded d e) refl (not_open_by_code d e h) (no_code_text d e h)

  code_read : (d e : Data) (s : List ℕ) → d ≡ tree.string s
      → reads_tree_in D (tree.object (Coded d e)) ≡ scope_value s (reads_scope_in D e)
  code_read d e s is = rw is refl

  pub value_of_code : (d e : Data) (s : List ℕ) → d ≡ tree.string s → HasScopeIn D e
      → HasValueIn D (tree.object (Coded d e))
  value_of_code d e s is ps =
      value_of (tree.object (Coded d e)) (code_value s ps.0) (code_read d e s is ∙ ap (scope_value s) ps.1)

  pub scope_path : (d e : Data) (s : List ℕ) → d ≡ tree.string s → (f : Fault) (path : List PathSegment)
      → IsScopeFaultIn D e f path
      → FaultAtIn D f (tree.object (Coded d e)) path
  scope_path d e s is f path (in_scope ms h) = rw is (scope s ms h)
  scope_path d e s is f path (no_scope x none bad) =
      shape_fault (Coded d e) refl (not_open_by_scope d e none) (code_read d e s is ∙ ap (scope_value s) bad)

  -- a tree that is not a string, where code is expected
  pub no_text_place : (d e : Data) (p : Place) → as_str d ≡ None → IsReasonOfFault wrong_shape p.reason → path_of p ≡ []
      → IsFaultPlace (λ f. FaultAtIn D f (tree.object (Coded d e))) p
  no_text_place d e p none reason path = at_once p reason path (not_text d e (no_string d none))

  -- what is no scope, beside code
  pub bad_scope_place : (s : List ℕ) (e : Data) (p : Place) → as_object e ≡ None → reads_scope_in D e ≡ Err wrong_shape
      → IsReasonOfFault wrong_shape p.reason → path_of p ≡ []
      → IsFaultPlace (λ f. FaultAtIn D f (tree.object (Coded (tree.string s) e))) p
  bad_scope_place s e p none bad reason path =
      at_once p reason path
      (scope_path (tree.string s) e s refl wrong_shape [] (no_scope e (no_object e none) bad))

  pub scope_place : {X : Type 0} (paired : X → Pairs → Type 0) (s k : List ℕ) (ms : Members) (r : Result X Place)
      (p q : Place) → r ≡ Err p → Builds paired (reads_members_in D ms) (λ f. MemberFaultAtIn D f ms) r
      → k ≡ codes "$scope" → path_of q ≡ path_of p ++ key k ∷ [] → q.reason ≡ p.reason
      → IsFaultPlace (λ f. FaultAtIn D f (tree.object (Coded (tree.string s) (tree.object ms)))) q
  scope_place paired s k ms r p q is h at_scope path reason =
      carried p q (key (codes "$scope")) (λ f w m. scope s ms m)
      (path ∙ ap (λ l. path_of p ++ key l ∷ []) at_scope) reason
      (placed_in paired (reads_members_in D ms) (λ f. MemberFaultAtIn D f ms) r p is h)

  pub scope_of_map : (ms : Members) → HasPairs D ms → HasScopeIn D (tree.object ms)
  scope_of_map ms ps = (Some ps.0, ap (λ r. r >>= λ qs. Ok (Some qs)) ps.1)

  -- ---- a map of one key, of two and of more, as its pairs are read

  more_cases : (x y : Member) (rest : List Member) → (length rest ≡ 0 → ⊥)
      → has_wrapper (members_view (x ∷ y ∷ rest)) ≡ true
      → FaultAtIn D wrong_shape (tree.object (members_view (x ∷ y ∷ rest))) []
  more_cases x y [] some w = absurd (some refl)
  more_cases x y (z ∷ rest) some w =
      shape_fault (members_view (x ∷ y ∷ z ∷ rest)) w (λ o. never o) refl

  pub more_place : (es mid rest : List Member) (x y : Member) (p : Place) → es ≡ x ∷ mid → mid ≡ y ∷ rest
      → (length rest ≡ 0 → ⊥) → has_wrapper (members_view es) ≡ true → IsReasonOfFault wrong_shape p.reason → path_of p ≡ []
      → IsFaultPlace (λ f. FaultAtIn D f (tree.object (members_view es))) p
  more_place es mid rest x y p is next some w reason path =
      let all : es ≡ x ∷ y ∷ rest = is ∙ ap (λ l. x ∷ l) next in
      at_once p reason path
      (subst (λ l. FaultAtIn D wrong_shape (tree.object (members_view l)) []) (sym all)
      (more_cases x y rest some (subst (λ l. has_wrapper (members_view l) ≡ true) all w)))

  -- two keys that are not those of code and its scope
  pub other_place : (es mid rest : List Member) (x y : Member) (p : Place) → es ≡ x ∷ mid → mid ≡ y ∷ rest
      → length rest ≡ 0 → has_wrapper (members_view es) ≡ true → has_code_keys x y ≡ false
      → IsReasonOfFault wrong_shape p.reason → path_of p ≡ [] → IsFaultPlace (λ f. FaultAtIn D f (tree.object (members_view es))) p
  other_place es mid rest x y p is next none w other reason path =
      let two = two_entries es mid rest x y is next none in
      at_once p reason path
      (subst (λ l. FaultAtIn D wrong_shape (tree.object (members_view l)) []) (sym two)
      (not_code (string_bytes x.0) (view x.1) (string_bytes y.0) (view y.1)
      (subst (λ l. has_wrapper (members_view l) ≡ true) two w) other))
