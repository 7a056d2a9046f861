-- Members that are written to a sink, one after the other.
use Rattle.std.proofs.Common.{◌≡◌, List, [], ◌∷◌, ◌++◌, ℕ, Result, Ok, Err, IfOk, sym, ap, ◌∙◌, append_assoc}
use Rattle.std.proofs.Common.{append-nil, refl}
use Rattle.json.specs.Token.{Token, begin_object, end_object, key}
use Rattle.json.specs.Tree.{members_tokens}
use Rattle.serde_json.specs.Data.{Data, Members, no_members, member, object}
use Rattle.bson_scalar.specs.TreeText.{json_of_members}
use Rattle.bson_scalar.specs.Tokens.{tokens_of, with_last_member, members_as_tokens}
use Rattle.bson_scalar.proofs.InTurn.{in_turn}

-- what an Ok holds, brought further
pub if_ok : {X E : Type 0} {P Q : X → Type 0} (r : Result X E) → IfOk r P → ((x : X) → P x → Q x) → IfOk r Q
if_ok (Ok x) h f = f x h
if_ok (Err e) h f = tt

-- ---- onto a text

-- a further key
pub keyed_next : (old mid new : List Token) (ms : Members) (k : List ℕ) → mid ≡ old ++ begin_object ∷ members_as_tokens ms
    → new ≡ mid ++ key k ∷ [] → new ≡ old ++ begin_object ∷ (members_as_tokens ms ++ key k ∷ [])
keyed_next old mid new ms k p q = in_turn old (begin_object ∷ members_as_tokens ms) mid (key k ∷ []) new p q

members_snoc : (ms : Members) (k : List ℕ) (d : Data)
    → members_as_tokens (with_last_member ms k d) ≡ (members_as_tokens ms ++ key k ∷ []) ++ tokens_of d
members_snoc no_members k d = ap (λ l. key k ∷ l) (append-nil (tokens_of d))
members_snoc (member l e ms) k d =
    ap (λ x. key l ∷ (tokens_of e ++ x)) (members_snoc ms k d)
    ∙ ap (λ x. key l ∷ x) (sym (append_assoc (tokens_of e) (members_as_tokens ms ++ key k ∷ []) (tokens_of d)))
    ∙ ap (λ x. key l ∷ (x ++ tokens_of d)) (sym (append_assoc (tokens_of e) (members_as_tokens ms) (key k ∷ [])))

-- the tree under a key
pub member_next : (old mid new : List Token) (ms : Members) (k : List ℕ) (d : Data)
    → mid ≡ old ++ begin_object ∷ (members_as_tokens ms ++ key k ∷ []) → new ≡ mid ++ tokens_of d
    → new ≡ old ++ begin_object ∷ members_as_tokens (with_last_member ms k d)
member_next old mid new ms k d p q =
    in_turn old (begin_object ∷ (members_as_tokens ms ++ key k ∷ [])) mid (tokens_of d) new p q
    ∙ ap (λ l. old ++ begin_object ∷ l) (sym (members_snoc ms k d))

members_end : (ms : Members) → members_as_tokens ms ++ end_object ∷ [] ≡ members_tokens (json_of_members ms)
members_end no_members = refl
members_end (member k d ms) =
    ap (λ l. key k ∷ l) (append_assoc (tokens_of d) (members_as_tokens ms) (end_object ∷ []))
    ∙ ap (λ l. key k ∷ (tokens_of d ++ l)) (members_end ms)

-- the end of a map
pub map_ends : (old mid new : List Token) (ms : Members) → mid ≡ old ++ begin_object ∷ members_as_tokens ms
    → new ≡ mid ++ end_object ∷ [] → new ≡ old ++ tokens_of (object ms)
map_ends old mid new ms p q =
    in_turn old (begin_object ∷ members_as_tokens ms) mid (end_object ∷ []) new p q
    ∙ ap (λ l. old ++ begin_object ∷ l) (members_end ms)
