-- What the members of an object are, normalized.
use Rattle.std.proofs.Common.{◌≡◌, ℕ, inl, inr, List, [], ◌∷◌, Bool, true, false, cond, Ordering, Less, Equal, Greater, map, refl, sym, ap, ◌∙◌}
use Rattle.std.specs.Cmp.Lexicographic.{slice_cmp}
use Rattle.std.specs.Ordering.{match_ordering, nat_cmp}
use Rattle.std.specs.Str.{bytes_eq}
use Rattle.json.specs.Json.{Json, Members, no_members, member}
use Rattle.bson_tokens.specs.Normalized.{put_member}
use Rattle.bson_tokens.specs.NormalizerStates.{has_entries, AreKeysInOrder, MemberSpanValues}
use Rattle.bson_tokens.specs.NormalizerStates.{AreSpansOrdered, JsonMember, SpansMatch, entry_at, json_entry_key, entry_members}
use Rattle.bson_tokens.specs.NormalizerStates.{json_entry_value, merge, member_span_key, span_offset, span_value, put_json_members}
use Rattle.bson_tokens.specs.PutMembers.{members_of, put_all_members}
use Rattle.bson_model.specs.declared.options.KeyOrder.{KeyOrder}
use Rattle.bson_model.specs.declared.options.KeyOrder.TheVariants.{AsGiven, Ascending}
use Rattle.bson_tokens.specs.declared.member_order.MemberSpan.{MemberSpan}
use Rattle.std.specs.List.Sorted.{IsSortedByKey}
use Rattle.bson_model.specs.StableOrder.{IsStableByKey}
use Rattle.bson_tokens.proofs.InPlace.{stable_by_place}
use Rattle.bson_tokens.proofs.Merged.{settled_by_key, settled_by_place}
use Rattle.bson_tokens.proofs.Ordered.{as_entries, put_as_entries}
use Rattle.bson_tokens.proofs.Putting.{put_ascending_keys, put_distinct, put_put}

-- entries are inserted as their pieces are
put_stand : (a : KeyOrder) (body : List ℕ) (ps : List MemberSpan) (es : List JsonMember) (stand : SpansMatch body ps es)
    → put_json_members a es ≡ put_all_members member_span_key (span_value stand.values) a ps no_members
put_stand a body ps es stand =
    ap (λ fs. put_all_members json_entry_key json_entry_value a fs no_members) (sym stand.entries)
    ∙ put_as_entries stand.values a ps no_members

-- those that are in their order stay
put_stands : (a : KeyOrder) (values : MemberSpanValues) (ps : List MemberSpan) → AreKeysInOrder a (map member_span_key ps)
    → put_all_members member_span_key (span_value values) a ps no_members ≡ members_of member_span_key (span_value values) ps
put_stands a values ps (inl up) = put_ascending_keys member_span_key (span_value values) a ps up
put_stands a values ps (inr (is, are)) =
    ap (λ b. put_all_members member_span_key (span_value values) b ps no_members) is
    ∙ put_distinct member_span_key (span_value values) ps are

pub stays : (a : KeyOrder) (body : List ℕ) (ps : List MemberSpan) (es : List JsonMember) → SpansMatch body ps es
    → AreKeysInOrder a (map member_span_key ps) → entry_members es ≡ put_json_members a es
stays a body ps es stand are =
    ap entry_members (sym stand.entries) ∙ as_entries stand.values ps ∙ sym (put_stands a stand.values ps are)
    ∙ sym (put_stand a body ps es stand)

-- in that order those of one key are as they were
keeps_turns : (a : KeyOrder) (body : List ℕ) (xs zs : List MemberSpan) (es : List JsonMember) (stand : SpansMatch body xs es)
    → (o : AreSpansOrdered a xs zs) → IsStableByKey member_span_key xs o.sorted_spans × IsSortedByKey member_span_key (slice_cmp nat_cmp) o.sorted_spans
keeps_turns a body xs zs es stand o = stable_by_place member_span_key span_offset xs o.sorted_spans 0 stand.rise o.same o.sorted

ordered : (a : KeyOrder) (body : List ℕ) (xs zs : List MemberSpan) (es : List JsonMember) (stand : SpansMatch body xs es)
    → AreSpansOrdered a xs zs
    → members_of member_span_key (span_value stand.values) zs ≡ put_all_members member_span_key (span_value stand.values) a xs no_members
ordered AsGiven body xs zs es stand o =
    let turns = keeps_turns AsGiven body xs zs es stand o in
    settled_by_place member_span_key span_offset (span_value stand.values) merge (λ p q. refl) (λ p q. refl) (λ p q. refl)
    xs o.sorted_spans turns.0 turns.1 zs 0 stand.rise o.placed.0 o.placed.1
ordered Ascending body xs zs es stand o =
    let turns = keeps_turns Ascending body xs zs es stand o in
    ap (members_of member_span_key (span_value stand.values)) o.placed
    ∙ settled_by_key member_span_key span_offset (span_value stand.values) merge (λ p q. refl) (λ p q. refl) (λ p q. refl)
    xs o.sorted_spans turns.0 turns.1

pub settled : (a : KeyOrder) (body : List ℕ) (xs zs : List MemberSpan) (es : List JsonMember) (stand : SpansMatch body xs es)
    → AreSpansOrdered a xs zs → entry_members (map (entry_at stand.values) zs) ≡ put_json_members a es
settled a body xs zs es stand o =
    as_entries stand.values zs ∙ ordered a body xs zs es stand o ∙ sym (put_stand a body xs es stand)

-- ---- before the object ends

abbrev filled : Members → Bool
filled no_members = false
filled (member k j ms) = true

filled_if : (b : Bool) (x y : Members) → filled x ≡ true → filled y ≡ true → filled (cond b x y) ≡ true
filled_if true x y h g = h
filled_if false x y h g = g

filled_by : (o : Ordering) (x y z : Members) → filled x ≡ true → filled y ≡ true → filled z ≡ true
    → filled (match_ordering o x y z) ≡ true
filled_by Less x y z h g f = h
filled_by Equal x y z h g f = g
filled_by Greater x y z h g f = f

filled_put : (a : KeyOrder) (k : List ℕ) (j : Json) (ms : Members) → filled (put_member a k j ms) ≡ true
filled_put AsGiven k j no_members = refl
filled_put AsGiven k j (member l i ms) = filled_if (bytes_eq k l) _ _ refl refl
filled_put Ascending k j no_members = refl
filled_put Ascending k j (member l i ms) = filled_by (slice_cmp nat_cmp k l) _ _ _ refl refl refl

filled_each : (a : KeyOrder) (es : List JsonMember) (found : Members) → filled found ≡ true
    → filled (put_all_members json_entry_key json_entry_value a es found) ≡ true
filled_each a [] found h = h
filled_each a (e ∷ es) found h = filled_each a es (put_member a e.0 e.1 found) (filled_put a e.0 e.1 found)

filled_entries : (a : KeyOrder) (es : List JsonMember) → filled (put_json_members a es) ≡ has_entries es
filled_entries a [] = refl
filled_entries a (e ∷ es) = filled_each a es (put_member a e.0 e.1 no_members) (filled_put a e.0 e.1 no_members)

filled_members : (es : List JsonMember) → filled (entry_members es) ≡ has_entries es
filled_members [] = refl
filled_members (e ∷ es) = refl

-- what they are inserted as is inserted again unchanged
pub settled_alike : (a : KeyOrder) (es fs : List JsonMember) → entry_members fs ≡ put_json_members a es
    → (put_json_members a fs ≡ put_json_members a es) × (has_entries fs ≡ has_entries es)
settled_alike a es fs put = (
  put_put json_entry_key json_entry_value a es fs put ∙ put,
  sym (filled_members fs) ∙ ap filled put ∙ filled_entries a es,
)
