-- What the productions of faults say is what reading gives.
use Rattle.std.proofs.Common.{◌≡◌, ℕ, ℤ, List, Bool, true, false, cond, Option, Some, None, Result, Ok, Err}
use Rattle.std.proofs.Common.{◌&&◌, refl, sym, ap, ◌∙◌}
use Rattle.std.specs.Prelude.{codes}
use Rattle.std.specs.Str.{bytes_eq}
use Rattle.std.proofs.lemmas.Bool.{and_parts}
use Rattle.serde_json.specs.Data.{Data, Num, Members, no_members, member}
use Rattle.serde_json.specs.Data as tree
use Rattle.serde_json.specs.Find.{as_i64}
use Rattle.bson_scalar.specs.Doubles.{finite_number}
use Rattle.bson_scalar.specs.Faults.{Fault, wrong_shape, wrong_id, ◌>>=◌, or_wrong_shape}
use Rattle.bson_scalar.specs.Ints.{narrowest_int}
use Rattle.bson_scalar.specs.Reading.{number_read_in, integer_or_double_read, optional_wrapper_read_in, on_text}
use Rattle.bson_scalar.specs.Scalar.{Scalar}
use Rattle.bson_scalar.specs.Scalar as kind
use Rattle.bson_scalar.specs.TreeParts.{one_key_object, two_key_object}
use Rattle.bson_scalar.specs.Table.{wrapper_of, has_wrapper}
use Rattle.bson_scalar.specs.declared.form.Doubles.{Doubles}
use Rattle.bson_scalar.specs.declared.form.Doubles.TheVariants.{Special, Finite}
use Rattle.bson_model.specs.Fault.{MeansNothingIn}
use Rattle.bson_model.specs.Reading.{reads_tree_in, reads_members_in, reads_wrapper_in, reads_scope_in}
use Rattle.bson_model.specs.Reading.{scalar_result_as_value, code_with_scope_read, scope_value}
use Rattle.bson_model.specs.Value.{Pairs}
use Rattle.bson_model.specs.Value as model
use Rattle.bson_model.proofs.Offered.{means_from_in, means_to_in}
use Rattle.bson_tree.specs.Place.{IsWrapperFaultIn, HasWrapperKeys, single_key, code_with_scope}
use Rattle.bson_scalar.proofs.Offered.{key_is}
use Rattle.bson_tree.proofs.BadIds.{bad_read, single_at_bad}

-- ---- numbers

no_scalar : {X : Type 0} (o : Option X) (g : X → Scalar) (f : Fault) → (or_wrong_shape o >>= λ x. Ok (g x)) ≡ Err f
    → f ≡ wrong_shape
no_scalar None g f h = cc
no_scalar (Some x) g f h = cc

no_double : (o : Option ℤ) (n : Num) (f : Fault) → integer_or_double_read o n ≡ Err f → f ≡ wrong_shape
no_double (Some z) n f h = cc
no_double None n f h = no_scalar (finite_number n) kind.double f h

-- a number that is refused has no other fault
pub number_fault : (D : Doubles) (n : Num) (f : Fault) → number_read_in D n ≡ Err f → f ≡ wrong_shape
number_fault Special n f h = no_scalar (as_i64 n) narrowest_int f h
number_fault Finite n f h = no_double (as_i64 n) n f h

-- ---- code with a scope

pub other_keys : (k : List ℕ) (d : Data) (l : List ℕ) (r : Result (Option Pairs) Fault)
    → (bytes_eq k (codes "$code") && bytes_eq l (codes "$scope")) ≡ false → code_with_scope_read k d l r ≡ Err wrong_shape
other_keys k d l r h = ap (λ b. cond b (on_text d (λ s. scope_value s r)) (Err wrong_shape)) h

abbrev pub Coded : Data → Data → Members
Coded d e = member (codes "$code") d (member (codes "$scope") e no_members)

module _ (D : Doubles) where
  -- ---- wrappers

  both : {A : Type 0} {x : Result A Fault} {v : A} {f : Fault} → x ≡ Ok v → x ≡ Err f → ⊥
  both e h = let same = sym e ∙ h in cc

  -- the value of a map with a wrapper key
  pub wrapped : (ms : Members) → has_wrapper ms ≡ true → reads_tree_in D (tree.object ms) ≡ reads_wrapper_in D ms
  wrapped ms h = ap (λ b. cond b (reads_wrapper_in D ms) (reads_members_in D ms >>= λ qs. Ok (model.document qs))) h

  pub nothing_read : {t : Data} {f : Fault} → reads_tree_in D t ≡ Err f → MeansNothingIn D t
  nothing_read h v m = both (means_to_in D m) h

  lone_read : (k : List ℕ) (d : Data) (r : Result Scalar Fault) → has_wrapper (member k d no_members) ≡ true
      → optional_wrapper_read_in D (wrapper_of k) d ≡ r → reads_tree_in D (one_key_object k d) ≡ scalar_result_as_value r
  lone_read k d r w h = wrapped (member k d no_members) w ∙ ap scalar_result_as_value h

  pub wrapper_fault : (k : List ℕ) (d : Data) (f : Fault) → has_wrapper (member k d no_members) ≡ true
      → optional_wrapper_read_in D (wrapper_of k) d ≡ Err f → IsWrapperFaultIn D (one_key_object k d) f
  wrapper_fault k d (wrong_id s) w h = single_at_bad D k d s (wrapper_of k) refl h
  wrapper_fault k d wrong_shape w h =
      let read = lone_read k d (Err wrong_shape) w h in
      (nothing_read read, λ s bad. let clash = sym (bad_read D bad) ∙ read in cc)

  shape_at : (k : List ℕ) (d : Data) (r : Result Scalar Fault) → has_wrapper (member k d no_members) ≡ true
      → optional_wrapper_read_in D (wrapper_of k) d ≡ r → IsWrapperFaultIn D (one_key_object k d) wrong_shape
      → reads_tree_in D (one_key_object k d) ≡ Err wrong_shape
  shape_at k d (Ok x) w h is = absurd (is.0 (model.scalar x) (means_from_in D _ _ (lone_read k d (Ok x) w h)))
  shape_at k d (Err wrong_shape) w h is = lone_read k d (Err wrong_shape) w h
  shape_at k d (Err (wrong_id s)) w h is = absurd (is.1 s (single_at_bad D k d s (wrapper_of k) refl h))

  pub wrapper_read : (k : List ℕ) (d : Data) (f : Fault) → has_wrapper (member k d no_members) ≡ true
      → IsWrapperFaultIn D (one_key_object k d) f → reads_tree_in D (one_key_object k d) ≡ Err f
  wrapper_read k d (wrong_id s) w is = bad_read D is
  wrapper_read k d wrong_shape w is = shape_at k d _ w refl is

  -- ---- numbers

  number_at : (n : Num) (r : Result Scalar Fault) → number_read_in D n ≡ r → MeansNothingIn D (tree.number n)
      → reads_tree_in D (tree.number n) ≡ Err wrong_shape
  number_at n (Ok x) h none = absurd (none (model.scalar x) (means_from_in D _ _ (ap scalar_result_as_value h)))
  number_at n (Err f) h none = ap scalar_result_as_value (h ∙ ap Err (number_fault D n f h))

  pub number_nothing : (n : Num) → MeansNothingIn D (tree.number n) → reads_tree_in D (tree.number n) ≡ Err wrong_shape
  number_nothing n none = number_at n _ refl none

  -- ---- objects with a wrapper key

  scope_nothing : (s : List ℕ) (e : Data) → (HasWrapperKeys (Coded (tree.string s) e) → ⊥)
      → MeansNothingIn D (tree.object (Coded (tree.string s) e)) → scope_value s (reads_scope_in D e) ≡ Err wrong_shape
  scope_nothing s tree.null o none = absurd (none (model.scalar (kind.code s)) (means_from_in D _ _ refl))
  scope_nothing s (tree.boolean b) o none = refl
  scope_nothing s (tree.number n) o none = refl
  scope_nothing s (tree.string t) o none = refl
  scope_nothing s (tree.array ds) o none = refl
  scope_nothing s (tree.object ms) o none = absurd (o (code_with_scope s ms))

  code_nothing : (d e : Data) → (HasWrapperKeys (Coded d e) → ⊥) → MeansNothingIn D (tree.object (Coded d e))
      → code_with_scope_read (codes "$code") d (codes "$scope") (reads_scope_in D e) ≡ Err wrong_shape
  code_nothing tree.null e o none = refl
  code_nothing (tree.boolean b) e o none = refl
  code_nothing (tree.number n) e o none = refl
  code_nothing (tree.string s) e o none = scope_nothing s e o none
  code_nothing (tree.array ds) e o none = refl
  code_nothing (tree.object ms) e o none = refl

  two_nothing : (k : List ℕ) (d : Data) (l : List ℕ) (e : Data) (b : Bool)
      → (bytes_eq k (codes "$code") && bytes_eq l (codes "$scope")) ≡ b
      → (HasWrapperKeys (member k d (member l e no_members)) → ⊥) → MeansNothingIn D (two_key_object k d l e)
      → code_with_scope_read k d l (reads_scope_in D e) ≡ Err wrong_shape
  two_nothing k d l e true h o none =
      let keys = and_parts _ _ h in
      let coded : (HasWrapperKeys (member k d (member l e no_members)) → ⊥) → MeansNothingIn D (two_key_object k d l e)
      → code_with_scope_read k d l (reads_scope_in D e) ≡ Err wrong_shape =
      rw (key_is k _ keys.0, key_is l _ keys.1) (code_nothing d e) in
      coded o none
  two_nothing k d l e false h o none = other_keys k d l (reads_scope_in D e) h

  wrapper_nothing : (ms : Members) → (HasWrapperKeys ms → ⊥) → MeansNothingIn D (tree.object ms)
      → reads_wrapper_in D ms ≡ Err wrong_shape
  wrapper_nothing no_members o none = refl
  wrapper_nothing (member k d no_members) o none = absurd (o (single_key k d))
  wrapper_nothing (member k d (member l e no_members)) o none = two_nothing k d l e _ refl o none
  wrapper_nothing (member k d (member l e (member m f ms))) o none = refl

  pub shape_nothing : (ms : Members) → has_wrapper ms ≡ true → (HasWrapperKeys ms → ⊥) → MeansNothingIn D (tree.object ms)
      → reads_tree_in D (tree.object ms) ≡ Err wrong_shape
  shape_nothing ms w o none = wrapped ms w ∙ wrapper_nothing ms o none
