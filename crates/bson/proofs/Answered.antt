-- What the walk answers, as a reader of values gives it.
use Rattle.std.proofs.Common.{◌≡◌, List, Result, Ok, Err, sym, ap, ◌∙◌, subst}
use Rattle.bson_scalar.specs.Faults.{Fault, IsReadError, IsIdFault}
use Rattle.bson_scalar.specs.declared.error.Error.{Error}
use Rattle.bson_scalar.specs.declared.error.Error.TheVariants.{InvalidObjectId, DeserializationError, OutOfMemory}
use Rattle.bson_tree.specs.Built.{Builds}
use Rattle.bson_tree.specs.Place.{PathSegment, IsReasonOfFault, path_of}
use Rattle.bson_tree.specs.declared.place.Place.{Place}
use Rattle.bson_tree.specs.declared.place.Reason.{Reason}
use Rattle.bson_tree.specs.declared.place.Reason.TheVariants.{BadObjectId, WrongShape}
use Rattle.bson.specs.ReadErrors.{IsErrorForReason}

fails : {Y : Type 0} (read : Result Y Fault) (f : Fault) (reason : Reason) (e : Error) → IsErrorForReason reason e
    → IsReasonOfFault f reason → read ≡ Err f → IsReadError e read
fails read f (BadObjectId id) (InvalidObjectId d) is reported h =
    (reported.0, h ∙ ap Err reported.1, subst (IsIdFault reported.0) (sym is) reported.2)
fails read f (BadObjectId id) (DeserializationError m) is reported h = absurd is
fails read f (BadObjectId id) OutOfMemory is reported h = tt
fails read f (WrongShape m) (InvalidObjectId d) is reported h = absurd is
fails read f (WrongShape m) (DeserializationError n) is reported h = h ∙ ap Err reported
fails read f (WrongShape m) OutOfMemory is reported h = tt

-- what is built, each seen as what it represents and in range
module _ {X Y : Type 0} (see : X → Y) (NumbersInRange : X → Type 0) (read : Result Y Fault) (lies : Fault → List PathSegment → Type 0)
    (answer : Result X Place) (h : Builds (λ x y. (see x ≡ y) × NumbersInRange x) read lies answer) where
  pub value_given : (x : X) → answer ≡ Ok x → (read ≡ Ok (see x)) × NumbersInRange x
  value_given x is =
      let represents = subst (Builds (λ x y. (see x ≡ y) × NumbersInRange x) read lies) is h in
      (represents.1 ∙ ap Ok (sym represents.2.0), represents.2.1)

  pub fault_given : (place : Place) (e : Error) → answer ≡ Err place → IsErrorForReason place.reason e
      → ((f : Fault) (path : List PathSegment) → lies f path → read ≡ Err f) → IsReadError e read
  fault_given place e is error to =
      let at = subst (Builds (λ x y. (see x ≡ y) × NumbersInRange x) read lies) is h in
      fails read at.fault place.reason e error at.reason (to at.fault (path_of place) at.path)
