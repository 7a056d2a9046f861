-- The fault at the end of a path is the one that reading gives, and a tree has one path.
use Rattle.std.proofs.Common.{◌≡◌, ℕ, List, [], ◌∷◌, ◌++◌, Bool, true, false, Option, None, Some, Result, Ok, Err}
use Rattle.std.proofs.Common.{IfOk, MatchOption, refl, sym, ap, ◌∙◌}
use Rattle.std.specs.Prelude.{codes}
use Rattle.std.specs.declared.alloc.AllocError.{AllocError}
use Rattle.serde_json.specs.Data.{Data, Items, Members}
use Rattle.bson_scalar.specs.Faults.{Fault, ◌>>=◌}
use Rattle.bson_scalar.specs.declared.form.Doubles.{Doubles}
use Rattle.bson_model.specs.Fault.{MeansNothingIn, fault_or_wrong_shape, fault_of_in}
use Rattle.bson_model.proofs.Offered.{means_to_in}
use Rattle.bson_model.specs.Reading.{reads_tree_in, reads_items_in, reads_members_in, scope_value}
use Rattle.bson_tree.specs.Place.{PathSegment, FaultAtIn, ItemFaultAtIn, MemberFaultAtIn, number, array, document}
use Rattle.bson_tree.specs.Place.{wrapper}
use Rattle.bson_tree.specs.Place.{scope, shape}
use Rattle.bson_tree.specs.Place.{at_this_element, after_valid_element, at_key, after_valid_member, key, element, single_key, code_with_scope}
use Rattle.bson_tree.specs.Place.{HasValueIn, IsFirstFaultIn, IsFaultPlace}
use Rattle.bson_tree.specs.declared.place.Place.{Place}
use Rattle.bson_tree.proofs.FaultLaws.{nothing_read, number_nothing, shape_nothing, wrapper_read}

neither : {b : Bool} → b ≡ true → b ≡ false → ⊥
neither e h = let same = sym e ∙ h in cc

module _ (D : Doubles) where
  mutual
    pub fault_to : {f : Fault} {t : Data} {path : List PathSegment} → FaultAtIn D f t path → reads_tree_in D t ≡ Err f
    fault_to (number n none) = number_nothing D n none
    fault_to (array ds m) = rw (among_to m) refl
    fault_to (document ms none m) = rw (none, in_to m) refl
    fault_to {f} (wrapper k d w h) = wrapper_read D k d f w h
    fault_to (scope s ms m) = ap (λ r. scope_value s (r >>= λ qs. Ok (Some qs))) (in_to m)
    fault_to (shape ms w o none) = shape_nothing D ms w o none

    pub among_to : {f : Fault} {n : ℕ} {ds : Items} {path : List PathSegment} → ItemFaultAtIn D f n ds path
        → reads_items_in D ds ≡ Err f
    among_to (at_this_element n d ds m) = rw (fault_to m) refl
    among_to (after_valid_element n d v ds e m) = rw (means_to_in D e, among_to m) refl

    pub in_to : {f : Fault} {ms : Members} {path : List PathSegment} → MemberFaultAtIn D f ms path → reads_members_in D ms ≡ Err f
    in_to (at_key k d ms m) = rw (fault_to m) refl
    in_to (after_valid_member k d v ms e m) = rw (means_to_in D e, in_to m) refl

  mutual
    pub one_path : {f g : Fault} {t : Data} {w x : List PathSegment} → FaultAtIn D f t w → FaultAtIn D g t x → w ≡ x
    one_path (number n h) (number m e) = refl
    one_path (array ds a) (array es b) = one_among a b
    one_path (document ms n a) (document ns m b) = one_in a b
    one_path (document ms n a) (wrapper k d w h) = absurd (neither w n)
    one_path (document ms n a) (scope s ns b) = absurd (neither refl n)
    one_path (document ms n a) (shape ns w o h) = absurd (neither w n)
    one_path (wrapper k d w h) (document ms n a) = absurd (neither w n)
    one_path (wrapper k d w h) (wrapper l e v i) = refl
    one_path (wrapper k d w h) (shape ns v o i) = absurd (o (single_key k d))
    one_path (scope s ms a) (document ns n b) = absurd (neither refl n)
    one_path (scope s ms a) (scope r ns b) = ap (λ y. y ++ key (codes "$scope") ∷ []) (one_in a b)
    one_path (scope s ms a) (shape ns v o i) = absurd (o (code_with_scope s ms))
    one_path (shape ns w o h) (document ms n a) = absurd (neither w n)
    one_path (shape ns w o h) (wrapper k d v i) = absurd (o (single_key k d))
    one_path (shape ns w o h) (scope s ms a) = absurd (o (code_with_scope s ms))
    one_path (shape ns w o h) (shape ms v p i) = refl

    one_among : {f g : Fault} {n : ℕ} {ds : Items} {w x : List PathSegment} → ItemFaultAtIn D f n ds w
        → ItemFaultAtIn D g n ds x → w ≡ x
    one_among (at_this_element n d ds a) (at_this_element m e es b) = ap (λ y. y ++ element n ∷ []) (one_path a b)
    one_among (at_this_element n d ds a) (after_valid_element m e v es h b) = absurd (nothing_read D (fault_to a) _ h)
    one_among (after_valid_element n d v ds h a) (at_this_element m e es b) = absurd (nothing_read D (fault_to b) _ h)
    one_among (after_valid_element n d v ds h a) (after_valid_element m e u es i b) = one_among a b

    one_in : {f g : Fault} {ms : Members} {w x : List PathSegment} → MemberFaultAtIn D f ms w → MemberFaultAtIn D g ms x → w ≡ x
    one_in (at_key k d ms a) (at_key l e ns b) = ap (λ y. y ++ key k ∷ []) (one_path a b)
    one_in (at_key k d ms a) (after_valid_member l e v ns h b) = absurd (nothing_read D (fault_to a) _ h)
    one_in (after_valid_member k d v ms h a) (at_key l e ns b) = absurd (nothing_read D (fault_to b) _ h)
    one_in (after_valid_member k d v ms h a) (after_valid_member l e u ns i b) = one_in a b

  pub one_fault : {f g : Fault} {t : Data} {w x : List PathSegment} → FaultAtIn D f t w → FaultAtIn D g t x → f ≡ g
  one_fault a b = let same = sym (fault_to a) ∙ fault_to b in cc

  pub means_nothing : {f : Fault} {t : Data} {path : List PathSegment} → FaultAtIn D f t path → MeansNothingIn D t
  means_nothing a = nothing_read D (fault_to a)

  -- the fault at the place is that of reading the tree
  pub first_fault : {f : Fault} {t : Data} {path : List PathSegment} → FaultAtIn D f t path → f ≡ fault_of_in D t
  first_fault m = ap fault_or_wrong_shape (sym (fault_to m))

  -- the tree of a fault means nothing
  pub first_at : (t : Data) (place : Place) → IsFaultPlace (λ f. FaultAtIn D f t) place → IsFirstFaultIn D t place
  first_at t place h = record { nothing = means_nothing h.path; fault = h.fault; path = h.path; reason = h.reason }

  pub first_found : (t : Data) (r : Result (Option Place) AllocError)
      → IfOk r (λ found. MatchOption found (HasValueIn D t) (IsFaultPlace (λ f. FaultAtIn D f t)))
      → IfOk r (λ found. MatchOption found (HasValueIn D t) (IsFirstFaultIn D t))
  first_found t (Ok None) h = h
  first_found t (Ok (Some place)) h = first_at t place h
  first_found t (Err e) h = tt
