-- What is left to write, and what the whole is once it is written.
use Rattle.std.proofs.Common.{◌≡◌, ℕ, List, [], ◌∷◌, ◌++◌, Option, Some, None, option_map, refl, sym, ap, ◌∙◌}
use Rattle.std.proofs.Common.{append_assoc, Result, IfErr}
use Rattle.std.proofs.lemmas.Option.{same_Some}
use Rattle.std.proofs.lemmas.Result.{IfErr-weaker}
use Rattle.json.specs.Json.{Json, Items, no_items, item, Members, no_members, member, parse_map}
use Rattle.json.specs.Json.{after_end_array, read_key, value}
use Rattle.json.specs.Json as json
use Rattle.json.specs.Reads.{token_of}
use Rattle.json.specs.Token.{Token}
use Rattle.json.specs.Token as token
use Rattle.json.specs.declared.token.Token as found
use Rattle.json.proofs.Grammar.{value_is}
use Rattle.bson_tokens.specs.ReadOutcomes.{NothingReadIfInvalid}
use Rattle.json.specs.declared.error.Error.{Error}
use Rattle.bson_tokens.specs.NormalizerStates.{array_rest, object_rest}
use Rattle.bson_v1.specs.WrittenTokens.{WritesMembers, WritesTokens, upgraded_items_tokens, upgraded_members_tokens, upgraded_value_tokens}
use Rattle.bson_tokens.proofs.Offered.{one_item, last_item, one_member, last_member}

-- the tokens that were written, followed by those of what is read; and the tokens that are left
abbrev pub whole : {A : Type 0} → (A → List Token) → List Token → Option (A × List Token)
    → Option (List Token × List Token)
whole written old read = option_map (λ p. (old ++ written p.0, p.1)) read

passes : {A : Type 0} (written : A → List Token) (read : Option (A × List Token)) (rest old new : List Token)
    → whole written old read ≡ Some (new, rest) → WritesTokens written read rest old new
passes written None rest old new e = cc
passes written (Some (a, r)) rest old new e =
    let same = same_Some {A = List Token × List Token} (old ++ written a, r) (new, rest) e in
    (a, ap (λ p. Some (a, p.1)) same, sym (ap (λ p. p.0) same))

-- where what is left breaks, all does
pub all_breaks : {A : Type 0} (written : A → List Token) (old now : List Token) (all left : Option (A × List Token))
    → whole written old all ≡ whole written now left → left ≡ None → all ≡ None
all_breaks written old now None left e none = refl
all_breaks written old now (Some p) left e none = let never = e ∙ ap (whole written now) none in cc

-- a result says that the one is invalid, and so the other is
pub breaks : {A B X : Type 0} (r : Result X Error) (a : Option A) (b : Option B) → (a ≡ None → b ≡ None)
    → IfErr r (NothingReadIfInvalid a) → IfErr r (NothingReadIfInvalid b)
breaks r a b so h = IfErr-weaker r (NothingReadIfInvalid a) (NothingReadIfInvalid b) (λ e none broken. so (none broken)) h

-- ---- arrays

item_behind : (j : Json) (old : List Token) (o : Option (Items × List Token))
    → whole upgraded_items_tokens old (parse_map (item j) o) ≡ whole upgraded_items_tokens (old ++ upgraded_value_tokens j) o
item_behind j old None = refl
item_behind j old (Some (js, r)) = ap (λ ts. Some (ts, r)) (sym (append_assoc old (upgraded_value_tokens j) (upgraded_items_tokens js)))

pub item_passed : (depth : ℕ) (all : Option (List Token × List Token)) (ts r now later : List Token)
    → all ≡ whole upgraded_items_tokens now (array_rest depth ts) → after_end_array ts ≡ None
    → WritesTokens upgraded_value_tokens (value depth ts) r now later → all ≡ whole upgraded_items_tokens later (array_rest depth r)
item_passed depth all ts r now later so_far going (j, read, is) =
    so_far ∙ ap (whole upgraded_items_tokens now) (one_item depth ts r j going read) ∙ item_behind j now (array_rest depth r)
    ∙ ap (λ o. whole upgraded_items_tokens o (array_rest depth r)) (sym is)

pub items_passed : (depth : ℕ) (start ts r old now later : List Token)
    → whole upgraded_items_tokens old (array_rest depth start) ≡ whole upgraded_items_tokens now (array_rest depth ts) → after_end_array ts ≡ Some r
    → later ≡ now ++ token.end_array ∷ [] → WritesTokens upgraded_items_tokens (array_rest depth start) r old later
items_passed depth start ts r old now later so_far ended is =
    passes upgraded_items_tokens (array_rest depth start) r old later
    (so_far ∙ ap (whole upgraded_items_tokens now) (last_item depth ts r ended) ∙ ap (λ o. Some (o, r)) (sym is))

-- ---- members

key_first : (k : List ℕ) (j : Json) (ms : Members) (old named later new : List Token)
    → named ≡ old ++ token.key k ∷ [] → later ≡ named ++ upgraded_value_tokens j → new ≡ later ++ upgraded_members_tokens ms
    → new ≡ old ++ upgraded_members_tokens (member k j ms)
key_first k j ms old named later new begun object_start is =
    is ∙ ap (λ o. o ++ upgraded_members_tokens ms) object_start ∙ append_assoc named (upgraded_value_tokens j) (upgraded_members_tokens ms)
    ∙ ap (λ o. o ++ (upgraded_value_tokens j ++ upgraded_members_tokens ms)) begun
    ∙ append_assoc old (token.key k ∷ []) (upgraded_value_tokens j ++ upgraded_members_tokens ms)

member_behind : (k : List ℕ) (j : Json) (old named later : List Token) (o : Option (Members × List Token))
    → named ≡ old ++ token.key k ∷ [] → later ≡ named ++ upgraded_value_tokens j
    → whole upgraded_members_tokens old (parse_map (member k j) o) ≡ whole upgraded_members_tokens later o
member_behind k j old named later None begun object_start = refl
member_behind k j old named later (Some (ms, r)) begun object_start =
    ap (λ ts. Some (ts, r)) (sym (key_first k j ms old named later (later ++ upgraded_members_tokens ms) begun object_start refl))

pub member_passed : (depth : ℕ) (all : Option (List Token × List Token)) (k : List ℕ)
    (ts s r now named later : List Token) → all ≡ whole upgraded_members_tokens now (object_rest depth ts)
    → read_key ts ≡ Some (Some k, s) → named ≡ now ++ token.key k ∷ []
    → WritesTokens upgraded_value_tokens (value depth s) r named later → all ≡ whole upgraded_members_tokens later (object_rest depth r)
member_passed depth all k ts s r now named later so_far key begun (j, read, is) =
    so_far ∙ ap (whole upgraded_members_tokens now) (one_member depth k ts s r j key read)
    ∙ member_behind k j now named later (object_rest depth r) begun is

pub members_passed : (depth : ℕ) (start ts r old now later : List Token)
    → whole upgraded_members_tokens old (object_rest depth start) ≡ whole upgraded_members_tokens now (object_rest depth ts) → read_key ts ≡ Some (None, r)
    → later ≡ now ++ token.end_object ∷ [] → WritesTokens upgraded_members_tokens (object_rest depth start) r old later
members_passed depth start ts r old now later so_far ended is =
    passes upgraded_members_tokens (object_rest depth start) r old later
    (so_far ∙ ap (whole upgraded_members_tokens now) (last_member depth ts r ended) ∙ ap (λ o. Some (o, r)) (sym is))

pub first_member : (depth : ℕ) (k : List ℕ) (ts r rest old named later new : List Token)
    → named ≡ old ++ token.key k ∷ [] → WritesTokens upgraded_value_tokens (value depth ts) r named later
    → WritesTokens upgraded_members_tokens (object_rest depth r) rest later new → WritesMembers depth k ts rest old new
first_member depth k ts r rest old named later new begun (j, read, object_start) (ms, more, is) =
    (j, ms, r, read, more, key_first k j ms old named later new begun object_start is)
