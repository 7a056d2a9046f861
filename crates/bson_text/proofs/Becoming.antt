-- What a failure denies, once it was seen from further out.
use Rattle.std.proofs.Common.{◌≡◌, ℕ, List, Option, Some, None, Bool, true, false, refl, sym, subst, ap, ◌∙◌}
use Rattle.std.specs.Prelude.{⊤}
use Rattle.std.proofs.lemmas.Option.{same_Some}
use Rattle.json.specs.Json.{read_key}
use Rattle.json.specs.Strict.{AreDistinct}
use Rattle.json.specs.Token.{Token}
use Rattle.bson_scalar.specs.Normal.{writable_scalar_in}
use Rattle.bson_scalar.specs.Scalar.{Scalar, code}
use Rattle.bson_scalar.specs.declared.form.Doubles.{Doubles}
use Rattle.bson_tokens.specs.PutMembers.{KeysAscendFrom}
use Rattle.bson_tree.specs.declared.place.Place.{Place}
use Rattle.bson_text.specs.ErrorDenials.{ErrorRulesOutEnd, EndsObject}
use Rattle.bson_text.specs.ErrorPaths.{IfErrorIsFault}
use Rattle.bson_text.specs.TraversalErrors.{ErrorRulesOut, IsNotParsed, IsWriterErrorIf, IsInvalidInput, IsSameKindOrOutOfMemory, IsWriterError, IsScalarWriterError, IsDocumentEndError}
use Rattle.bson_text.specs.declared.traversal_error.TraversalError.{TraversalError}
use Rattle.bson_text.specs.declared.traversal_error.TraversalError.TheVariants as failure

-- ---- a writer

pub weaker_stop : {U V G H : Type 0} (e : TraversalError) → (V → U) → (G → H) → IsWriterErrorIf U G e → IsWriterErrorIf V H e
weaker_stop failure.OutOfMemory unique give h = h
weaker_stop failure.DuplicateKey unique give h = λ v. h (unique v)
weaker_stop failure.GaveUp unique give h = give h
weaker_stop failure.Syntax unique give h = h
weaker_stop (failure.Fault place) unique give h = h

-- it reports no fault
silent : (U G : Type 0) (e : TraversalError) (P : Place → Type 0) → IsWriterErrorIf U G e → IfErrorIsFault e P
silent U G failure.OutOfMemory P h = tt
silent U G failure.DuplicateKey P h = tt
silent U G failure.GaveUp P h = tt
silent U G failure.Syntax P h = tt
silent U G (failure.Fault q) P h = absurd h

pub quiet : (WriterMayGiveUp : Doubles → Type 0) (e : TraversalError) (P : Place → Type 0) → IsWriterError WriterMayGiveUp e → IfErrorIsFault e P
quiet WriterMayGiveUp = silent (Unit {0}) ((D : Doubles) → WriterMayGiveUp D)

pub quiet_at : (WriterMayGiveUp : Doubles → Type 0) (x : Scalar) (e : TraversalError) (P : Place → Type 0) → IsScalarWriterError WriterMayGiveUp x e → IfErrorIsFault e P
quiet_at WriterMayGiveUp x = silent (Unit {0}) ((D : Doubles) → writable_scalar_in D x ≡ true → WriterMayGiveUp D)

pub quiet_code : (WriterMayGiveUp : Doubles → Type 0) (s t : List ℕ) (e : TraversalError) (P : Place → Type 0) → s ≡ t
    → IsScalarWriterError WriterMayGiveUp (code s) e → IfErrorIsFault e P
quiet_code WriterMayGiveUp s t e P same = quiet_at WriterMayGiveUp (code s) e P

pub quiet_end : (WriterMayGiveUp : Doubles → Type 0) (WriterSortsKeys : Type 0) (ks : List (List ℕ)) (e : TraversalError) (P : Place → Type 0)
    → IsDocumentEndError WriterMayGiveUp WriterSortsKeys ks e → IfErrorIsFault e P
quiet_end WriterMayGiveUp WriterSortsKeys ks = silent (AreDistinct ks) ((WriterSortsKeys → KeysAscendFrom None ks) → (D : Doubles) → WriterMayGiveUp D)

-- of what it gives up this is so: the writer does not leave it, and nothing else gives it up
by_writer : {U G : Type 0} (e : TraversalError) (P V M : Type 0) → (V → U) → (G → P → ⊥) → IsWriterErrorIf U G e → ErrorRulesOut e P V M → ⊥
by_writer failure.OutOfMemory P V M unique give h d = d
by_writer failure.DuplicateKey P V M unique give h d = h (unique d)
by_writer failure.GaveUp P V M unique give h d = give h d
by_writer failure.Syntax P V M unique give h d = h
by_writer (failure.Fault place) P V M unique give h d = h

pub lacks_by_writer : {X : Type 0} {U G : Type 0} (e : TraversalError) (o : Option (X × List Token)) (P V M : X → List Token → Type 0)
    → ((x : X) (r : List Token) → o ≡ Some (x, r) → V x r → U) → ((x : X) (r : List Token) → o ≡ Some (x, r) → G → P x r → ⊥)
    → IsWriterErrorIf U G e → IsNotParsed o (λ x r. ErrorRulesOut e (P x r) (V x r) (M x r))
lacks_by_writer e o P V M unique give h x r is = by_writer e (P x r) (V x r) (M x r) (unique x r is) (give x r is) h

-- it does so in one mode of doubles
pub gives_up_at : {X : Type 0} {o : Option (X × List Token)} (WriterMayGiveUp : Doubles → Type 0) (x : Scalar) (e : TraversalError) (D : Doubles)
    (P V M : X → List Token → Type 0) → writable_scalar_in D x ≡ true → IsScalarWriterError WriterMayGiveUp x e
    → IsNotParsed o (λ y r. ErrorRulesOut e ((WriterMayGiveUp D → ⊥) × P y r) (V y r) (M y r))
gives_up_at {X} {o} WriterMayGiveUp x e D P V M written =
    lacks_by_writer {U = Unit {0}} {G = (E : Doubles) → writable_scalar_in E x ≡ true → WriterMayGiveUp E} e o
    (λ y r. (WriterMayGiveUp D → ⊥) × P y r) V M (λ y r is once. tt) (λ y r is give d. d.0 (give D written))

pub gives_up_code : {X : Type 0} {o : Option (X × List Token)} (WriterMayGiveUp : Doubles → Type 0) (s t : List ℕ) (e : TraversalError)
    (D : Doubles) (P V M : X → List Token → Type 0) → s ≡ t → IsScalarWriterError WriterMayGiveUp (code s) e
    → IsNotParsed o (λ y r. ErrorRulesOut e ((WriterMayGiveUp D → ⊥) × P y r) (V y r) (M y r))
gives_up_code WriterMayGiveUp s t e D P V M same = gives_up_at WriterMayGiveUp (code s) e D P V M refl

pub gives_up : {X : Type 0} {o : Option (X × List Token)} (WriterMayGiveUp : Doubles → Type 0) (e : TraversalError) (D : Doubles)
    (P V M : X → List Token → Type 0) → IsWriterError WriterMayGiveUp e
    → IsNotParsed o (λ y r. ErrorRulesOut e ((WriterMayGiveUp D → ⊥) × P y r) (V y r) (M y r))
gives_up {X} {o} WriterMayGiveUp e D P V M = lacks_by_writer {U = Unit {0}} {G = (E : Doubles) → WriterMayGiveUp E} e o
    (λ y r. (WriterMayGiveUp D → ⊥) × P y r) V M (λ y r is once. tt) (λ y r is give d. d.0 (give D))

pub ends_in : (WriterMayGiveUp : Doubles → Type 0) (WriterSortsKeys : Type 0) (ks : List (List ℕ)) (e : TraversalError) (D : Doubles)
    → IsDocumentEndError WriterMayGiveUp WriterSortsKeys ks e → IsWriterErrorIf (AreDistinct ks) ((WriterSortsKeys → KeysAscendFrom None ks) → WriterMayGiveUp D) e
ends_in WriterMayGiveUp WriterSortsKeys ks e D = weaker_stop e (λ u. u) (λ give ascend. give ascend D)

-- ---- seen from further out

fault_denies : (e : TraversalError) (P U M : Type 0) → IsInvalidInput e → U × M → ErrorRulesOut e P U M
fault_denies failure.OutOfMemory P U M is d = absurd is
fault_denies failure.DuplicateKey P U M is d = absurd is
fault_denies failure.GaveUp P U M is d = absurd is
fault_denies failure.Syntax P U M is d = d
fault_denies (failure.Fault place) P U M is d = d

pub became : (e f : TraversalError) (P U M : Type 0) → IsSameKindOrOutOfMemory e f → ErrorRulesOut f P U M → ErrorRulesOut e P U M
became e failure.OutOfMemory P U M is d = absurd d
became e failure.DuplicateKey P U M is d = subst (λ x. ErrorRulesOut x P U M) (sym is) d
became e failure.GaveUp P U M is d = subst (λ x. ErrorRulesOut x P U M) (sym is) d
became e failure.Syntax P U M is d = fault_denies e P U M is d
became e (failure.Fault place) P U M is d = fault_denies e P U M is d

fault_was : (a b : TraversalError) → IsSameKindOrOutOfMemory a b → IsInvalidInput b → IsInvalidInput a
fault_was a failure.OutOfMemory h is = absurd is
fault_was a failure.DuplicateKey h is = absurd is
fault_was a failure.GaveUp h is = absurd is
fault_was a failure.Syntax h is = h
fault_was a (failure.Fault place) h is = h

pub becomes_again : (a b c : TraversalError) → IsSameKindOrOutOfMemory a b → IsSameKindOrOutOfMemory b c → IsSameKindOrOutOfMemory a c
becomes_again a b failure.OutOfMemory h g = tt
becomes_again a b failure.DuplicateKey h g = subst (λ x. IsSameKindOrOutOfMemory a x) g h
becomes_again a b failure.GaveUp h g = subst (λ x. IsSameKindOrOutOfMemory a x) g h
becomes_again a b failure.Syntax h g = fault_was a b h g
becomes_again a b (failure.Fault place) h g = fault_was a b h g

pub end_became : (e f : TraversalError) (b : Bool) (ts : List Token) → IsSameKindOrOutOfMemory e f → ErrorRulesOutEnd e b ts → ErrorRulesOutEnd f b ts
end_became e f b ts is nothing d = nothing (became e f ⊤ ⊤ (EndsObject b ts) is d)

pub lacks_became : {X : Type 0} {o : Option (X × List Token)} (e f : TraversalError) (P U M : X → List Token → Type 0) → IsSameKindOrOutOfMemory e f
    → IsNotParsed o (λ x r. ErrorRulesOut e (P x r) (U x r) (M x r)) → IsNotParsed o (λ x r. ErrorRulesOut f (P x r) (U x r) (M x r))
lacks_became e f P U M is nothing x r here d = nothing x r here (became e f (P x r) (U x r) (M x r) is d)

pub end_not : (b : Bool) (ts s : List Token) (k : List ℕ) → (b ≡ false → read_key ts ≡ Some (Some k, s)) → EndsObject b ts → ⊥
end_not true ts s k named ends = ends
end_not false ts s k named (end, read) =
    let same : (Some k, s) ≡ (None, end) =
    same_Some {A = Option (List ℕ) × List Token} (Some k, s) (None, end) (sym (named refl) ∙ read) in
    let never : Some k ≡ None = ap (λ p. p.0) same in cc
