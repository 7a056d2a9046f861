-- The text after a front.
use Rattle.std.proofs.Common.{◌≡◌, ℕ, ◌-◌, List, [], ◌++◌, append-nil, drop, length, take, sym, ap, ◌∙◌, refl, arith, subst}
use Rattle.std.proofs.Common.{Option, Some, None, Vec, Global}
use Rattle.std.specs.Prelude.{MatchOption}
use Rattle.std.proofs.lemmas.List.{length-append, take-append-le}
use Rattle.std.proofs.Math.Seq.{take-length}
use Rattle.bson_tokens.specs.NormalizerStates.{JsonMember, SpansNormalized, SpansMatch, SpansMatchNormalized}
use Rattle.bson_model.specs.declared.options.KeyOrder.{KeyOrder}
use Rattle.bson_tokens.specs.declared.member_order.MemberSpan.{MemberSpan}
use Rattle.bson_tokens.proofs.Standing.{slice_between}

pub body_is : (text all front body : List ℕ) (start : ℕ) → text ≡ front ++ body → start ≡ length front → all ≡ text
    → take (length all - start) (drop start all) ≡ body
body_is text all front body start is begun same =
    slice_between all front body [] start (length all) (same ∙ is ∙ ap (λ l. front ++ l) (sym (append-nil body))) begun
    (ap length (same ∙ is) ∙ length-append front body)

pub front_is : (text front body : List ℕ) (start : ℕ) → text ≡ front ++ body → start ≡ length front → take start text ≡ front
front_is text front body start is begun =
    ap (take start) is ∙ ap (λ n. take n (front ++ body)) begun ∙ take-append-le (length front) front body (omega arith)
    ∙ take-length front

-- ---- pieces that were normalized

nothing_there : (o : Option (Vec ℕ Global)) → ((t : Vec ℕ Global) → o ≡ Some t → ⊥) → o ≡ None
nothing_there None none = refl
nothing_there (Some t) none = absurd (none t refl)

pub normalized_anew : (a : KeyOrder) (body : List ℕ) (old new : List MemberSpan) (text : Option (Vec ℕ Global)) (t : Vec ℕ Global)
    → text ≡ Some t → (es : List JsonMember) → SpansMatch body old es → SpansNormalized a body old new text
    → SpansMatchNormalized a es t.items new
normalized_anew a body old new text t is es stand h =
    subst (λ o. MatchOption o (SpansMatchNormalized a es body new) (λ u. SpansMatchNormalized a es u.items new)) is (h es stand)

pub stays_normalized : (a : KeyOrder) (body : List ℕ) (old new : List MemberSpan) (text : Option (Vec ℕ Global))
    → ((t : Vec ℕ Global) → text ≡ Some t → ⊥) → (es : List JsonMember) → SpansMatch body old es → SpansNormalized a body old new text
    → SpansMatchNormalized a es body new
stays_normalized a body old new text none es stand h =
    subst (λ o. MatchOption o (SpansMatchNormalized a es body new) (λ u. SpansMatchNormalized a es u.items new))
    (nothing_there text none) (h es stand)
