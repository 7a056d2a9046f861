-- What is left to write, and what the whole is once it is written.
use Rattle.std.proofs.Common.{◌≡◌, ℕ, ◌<◌, List, [], ◌∷◌, ◌++◌, Option, Some, None, option_map, true, false, refl, sym, ap, ◌∙◌}
use Rattle.std.proofs.Common.{append_assoc, Result, IfErr, length, Bool}
use Rattle.std.proofs.lemmas.Option.{same_Some}
use Rattle.std.proofs.lemmas.Result.{IfErr-weaker}
use Rattle.json.specs.Json.{Json, array, object, Items, no_items, item, Members, no_members, member, parse_map}
use Rattle.json.specs.Json.{after_end_array, read_key, value}
use Rattle.json.specs.Print.{print}
use Rattle.json.specs.Token.{Token}
use Rattle.json.specs.Tree.{json_tokens}
use Rattle.json.proofs.Grammar.{left, skip_value-shorter}
use Rattle.serde_json.specs.Written.{comma_if}
use Rattle.bson_tokens.specs.ReadOutcomes.{NothingReadIfInvalid}
use Rattle.json.specs.declared.error.Error.{Error}
use Rattle.bson_tokens.specs.Normalized.{normalized, normalized_items, normalized_members, put_member}
use Rattle.bson_tokens.specs.NormalizerStates.{AppendedAfterComma, TextAppended, JsonMember, ReadAndNormalized, array_rest, object_rest, if_valid}
use Rattle.bson_tokens.specs.NormalizerStates.{json_entry_key, entry_members, json_entry_value, put_json_members, comma_if_then_member_texts}
use Rattle.bson_tokens.specs.NormalizerStates.{all_numbers_in_range, item_numbers_in_range, member_numbers_in_range}
use Rattle.bson_tokens.specs.PutMembers.{put_all_members}
use Rattle.bson_tokens.specs.declared.normalizer.Normalizer.{Normalizer}
use Rattle.bson_model.specs.declared.options.KeyOrder.{KeyOrder}
use Rattle.bson_tokens.proofs.Ranged.{is_sound, none_sound, sound_none, sound_under, was_sound}
use Rattle.bson_tokens.proofs.Texts.{array_printed, no_more_items, object_printed, one_more_item, printed_items}
use Rattle.bson_tokens.proofs.Rounds.{last_item, last_member, no_item, no_key, no_member, one_item, one_member}

-- where what is left breaks, all does
pub all_breaks : {A B X : Type 0} (f : A → X) (g : B → X) (all : Option A) (left : Option B)
    → option_map f all ≡ option_map g left → left ≡ None → all ≡ None
all_breaks f g None left e none = refl
all_breaks f g (Some p) left e none = let never = e ∙ ap (option_map g) none in cc

-- an answer says that the one breaks, and so the other does
pub breaks : {A B X : Type 0} (r : Result X Error) (a : Option A) (b : Option B) → (a ≡ None → b ≡ None)
    → IfErr r (NothingReadIfInvalid a) → IfErr r (NothingReadIfInvalid b)
breaks r a b so h = IfErr-weaker r (NothingReadIfInvalid a) (NothingReadIfInvalid b) (λ e none broken. so (none broken)) h

came_from : {A X : Type 0} (f : A → X) (o : Option A) (x : X) → option_map f o ≡ Some x
    → (a : A) × (o ≡ Some a) × (f a ≡ x)
came_from f None x e = cc
came_from f (Some a) x e = (a, refl, same_Some (f a) x e)

-- what is read consumes a token
pub shorter : (depth : ℕ) (ts r : List Token) (j : Json) → if_valid all_numbers_in_range (value depth ts) ≡ Some (j, r)
    → length r < length ts
shorter depth ts r j read = skip_value-shorter depth ts r (ap left (was_sound all_numbers_in_range (value depth ts) j r read).0)

-- ---- arrays

-- the text with what is left, beside the tokens after it
abbrev pub whole_at : Normalizer → Items × List Token → List ℕ × List Token
whole_at w p = (w.text.items ++ printed_items w.needs_comma (normalized_items w.key_order p.0), p.1)

abbrev pub whole : Normalizer → Option (Items × List Token) → Option (List ℕ × List Token)
whole w o = option_map (whole_at w) o

item_behind : (j : Json) (now later : Normalizer) (o : Option (Items × List Token))
    → AppendedAfterComma now (print (json_tokens (normalized now.key_order j))) true later
    → whole now (parse_map (item j) o) ≡ whole later o
item_behind j now later None added = refl
item_behind j now later (Some (js, r)) added =
    let a = now.key_order in
    let s = print (json_tokens (normalized a j)) in
    let rest = normalized_items a js in
    let comma = comma_if now.needs_comma in
    ap (λ l. Some (l, r))
    (ap (λ l. now.text.items ++ l) (sym (one_more_item now.needs_comma (normalized a j) rest))
    ∙ ap (λ l. now.text.items ++ l) (sym (append_assoc comma s (printed_items true rest)))
    ∙ sym (append_assoc now.text.items (comma ++ s) (printed_items true rest))
    ∙ ap (λ l. l ++ printed_items true rest) (sym added.text)
    ∙ ap (λ b. later.text.items ++ printed_items b rest) (sym added.needs_comma)
    ∙ ap (λ x. later.text.items ++ printed_items later.needs_comma (normalized_items x js)) (sym added.key_order))

pub item_passed : (depth : ℕ) (all : Option (List ℕ × List Token)) (ts r : List Token) (now later : Normalizer)
    → all ≡ whole now (if_valid item_numbers_in_range (array_rest depth ts)) → after_end_array ts ≡ None
    → ReadAndNormalized (if_valid all_numbers_in_range (value depth ts)) (normalized now.key_order) r now later
    → all ≡ whole later (if_valid item_numbers_in_range (array_rest depth r))
item_passed depth all ts r now later so_far going (j, read, added) =
    let was = was_sound all_numbers_in_range (value depth ts) j r read in
    so_far ∙ ap (λ o. whole now (if_valid item_numbers_in_range o)) (one_item depth ts r j going was.0)
    ∙ ap (whole now) (sound_under item_numbers_in_range item_numbers_in_range (item j) (array_rest depth r) (λ js. rw was.1 refl))
    ∙ item_behind j now later (if_valid item_numbers_in_range (array_rest depth r)) added

pub items_passed : (depth : ℕ) (start ts r : List Token) (old begun now later : Normalizer)
    → AppendedAfterComma old (91 ∷ []) false begun
    → whole begun (if_valid item_numbers_in_range (array_rest depth start)) ≡ whole now (if_valid item_numbers_in_range (array_rest depth ts))
    → now.key_order ≡ begun.key_order → after_end_array ts ≡ Some r → TextAppended now (93 ∷ []) true later
    → ReadAndNormalized (if_valid item_numbers_in_range (array_rest depth start)) (λ js. normalized old.key_order (array js)) r old later
items_passed depth start ts r old begun now later begin so_far same ended close =
    let last = is_sound item_numbers_in_range (array_rest depth ts) no_items r (last_item depth ts r ended) refl in
    let end : whole begun (if_valid item_numbers_in_range (array_rest depth start)) ≡ Some (later.text.items, r) =
    so_far ∙ ap (whole now) last
    ∙ ap (λ l. Some (now.text.items ++ l, r)) (no_more_items now.needs_comma) ∙ ap (λ l. Some (l, r)) (sym close.text) in
    let (p, read, text) = came_from (whole_at begun) (if_valid item_numbers_in_range (array_rest depth start)) (later.text.items, r) end in
    let js = normalized_items old.key_order p.0 in
    let comma = comma_if old.needs_comma in (
      p.0,
      read ∙ ap (λ t. Some (p.0, t)) (ap (λ q. q.1) text),
      record {
        key_order = close.key_order ∙ same ∙ begin.key_order;
        needs_comma = close.needs_comma;
        text = sym (ap (λ q. q.0) text)
            ∙ ap (λ a. begun.text.items ++ printed_items begun.needs_comma (normalized_items a p.0)) begin.key_order
            ∙ ap (λ b. begun.text.items ++ printed_items b js) begin.needs_comma
            ∙ ap (λ l. l ++ printed_items false js) begin.text
            ∙ append_assoc old.text.items (comma ++ 91 ∷ []) (printed_items false js)
            ∙ ap (λ l. old.text.items ++ l) (append_assoc comma (91 ∷ []) (printed_items false js))
            ∙ ap (λ l. old.text.items ++ (comma ++ l)) (array_printed js);
      },
    )

pub item_fails : (depth : ℕ) (ts : List Token) → after_end_array ts ≡ None → if_valid all_numbers_in_range (value depth ts) ≡ None
    → if_valid item_numbers_in_range (array_rest depth ts) ≡ None
item_fails depth ts going none = fails_at (value depth ts) refl
  where
    fails_at : (o : Option (Json × List Token)) → value depth ts ≡ o → if_valid item_numbers_in_range (array_rest depth ts) ≡ None
    fails_at None is = none_sound item_numbers_in_range (array_rest depth ts) (no_item depth ts going is)
    fails_at (Some (j, r)) is =
        ap (if_valid item_numbers_in_range) (one_item depth ts r j going is)
        ∙ sound_none item_numbers_in_range (item j) (array_rest depth r) (λ js. out_at _ refl js)
      where
        out_at : (b : Bool) → all_numbers_in_range j ≡ b → (js : Items) → item_numbers_in_range (item j js) ≡ false
        out_at true fits js =
            let never : Some (j, r) ≡ None = sym (is_sound all_numbers_in_range (value depth ts) j r is fits) ∙ none in cc
        out_at false out js = rw out refl

-- ---- objects

abbrev pub found_at : KeyOrder → List JsonMember → Members × List Token → Members × List Token
found_at a es p = (normalized_members a p.0 (put_json_members a es), p.1)

-- the same after these members
abbrev pub found_from : KeyOrder → Members → Option (Members × List Token) → Option (Members × List Token)
found_from a ms o = option_map (λ p. (normalized_members a p.0 ms, p.1)) o

abbrev pub found : KeyOrder → List JsonMember → Option (Members × List Token) → Option (Members × List Token)
found a es o = option_map (found_at a es) o

put_last : (a : KeyOrder) (es : List JsonMember) (e : JsonMember) (ms : Members)
    → put_all_members json_entry_key json_entry_value a (es ++ e ∷ []) ms ≡ put_member a e.0 e.1 (put_all_members json_entry_key json_entry_value a es ms)
put_last a [] e ms = refl
put_last a (d ∷ es) e ms = put_last a es e (put_member a d.0 d.1 ms)

member_behind : (a : KeyOrder) (es : List JsonMember) (k : List ℕ) (j : Json) (o : Option (Members × List Token))
    → found a es (parse_map (member k j) o) ≡ found a (es ++ (k, normalized a j) ∷ []) o
member_behind a es k j None = refl
member_behind a es k j (Some (ms, r)) =
    ap (λ x. Some (normalized_members a ms x, r)) (sym (put_last a es (k, normalized a j) no_members))

pub member_passed : (depth : ℕ) (all : Option (Members × List Token)) (a : KeyOrder) (es : List JsonMember) (k : List ℕ)
    (ts s r : List Token) (j : Json) → all ≡ found a es (if_valid member_numbers_in_range (object_rest depth ts))
    → read_key ts ≡ Some (Some k, s) → if_valid all_numbers_in_range (value depth s) ≡ Some (j, r)
    → all ≡ found a (es ++ (k, normalized a j) ∷ []) (if_valid member_numbers_in_range (object_rest depth r))
member_passed depth all a es k ts s r j so_far named read =
    let was = was_sound all_numbers_in_range (value depth s) j r read in
    so_far ∙ ap (λ o. found a es (if_valid member_numbers_in_range o)) (one_member depth k ts s r j named was.0)
    ∙ ap (found a es) (sound_under member_numbers_in_range member_numbers_in_range (member k j) (object_rest depth r) (λ ms. rw was.1 refl))
    ∙ member_behind a es k j (if_valid member_numbers_in_range (object_rest depth r))

pub members_passed : (depth : ℕ) (start ts r : List Token) (old begun now : Normalizer) (later : Normalizer)
    (es fs : List JsonMember) (body : List ℕ) → AppendedAfterComma old (123 ∷ []) false begun
    → found now.key_order [] (if_valid member_numbers_in_range (object_rest depth start))
    ≡ found now.key_order es (if_valid member_numbers_in_range (object_rest depth ts))
    → now.key_order ≡ begun.key_order → read_key ts ≡ Some (None, r)
    → body ≡ comma_if_then_member_texts false fs → entry_members fs ≡ put_json_members now.key_order es
    → later.key_order ≡ now.key_order → later.needs_comma ≡ true
    → later.text.items ≡ (begun.text.items ++ body) ++ 125 ∷ []
    → ReadAndNormalized (if_valid member_numbers_in_range (object_rest depth start)) (λ ms. normalized old.key_order (object ms)) r old later
members_passed depth start ts r old begun now later es fs body begin so_far same ended spells put kept needs_comma text =
    let a = now.key_order in
    let last = is_sound member_numbers_in_range (object_rest depth ts) no_members r (last_member depth ts r ended) refl in
    let (p, read, end) = came_from (found_at a []) (if_valid member_numbers_in_range (object_rest depth start)) (put_json_members a es, r)
    (so_far ∙ ap (found a es) last) in
    let comma = comma_if old.needs_comma in
    let first = same ∙ begin.key_order in
    let all : entry_members fs ≡ normalized_members old.key_order p.0 no_members =
    put ∙ sym (ap (λ q. q.0) end) ∙ ap (λ x. normalized_members x p.0 no_members) first in
    let rest = comma_if_then_member_texts false fs ++ 125 ∷ [] in (
      p.0,
      read ∙ ap (λ t. Some (p.0, t)) (ap (λ q. q.1) end),
      record {
        key_order = kept ∙ first;
        needs_comma = needs_comma;
        text = text ∙ ap (λ b. (begun.text.items ++ b) ++ 125 ∷ []) spells
            ∙ append_assoc begun.text.items (comma_if_then_member_texts false fs) (125 ∷ [])
            ∙ ap (λ l. l ++ rest) begin.text
            ∙ append_assoc old.text.items (comma ++ 123 ∷ []) rest
            ∙ ap (λ l. old.text.items ++ l) (append_assoc comma (123 ∷ []) rest)
            ∙ ap (λ l. old.text.items ++ (comma ++ l)) (object_printed fs)
            ∙ ap (λ ms. old.text.items ++ (comma ++ print (json_tokens (object ms)))) all;
      },
    )

pub key_fails : (depth : ℕ) (ts : List Token) → read_key ts ≡ None → if_valid member_numbers_in_range (object_rest depth ts) ≡ None
key_fails depth ts none = none_sound member_numbers_in_range (object_rest depth ts) (no_key depth ts none)

pub member_fails : (depth : ℕ) (k : List ℕ) (ts s : List Token) → read_key ts ≡ Some (Some k, s)
    → if_valid all_numbers_in_range (value depth s) ≡ None → if_valid member_numbers_in_range (object_rest depth ts) ≡ None
member_fails depth k ts s named none = fails_at (value depth s) refl
  where
    fails_at : (o : Option (Json × List Token)) → value depth s ≡ o → if_valid member_numbers_in_range (object_rest depth ts) ≡ None
    fails_at None is = none_sound member_numbers_in_range (object_rest depth ts) (no_member depth k ts s named is)
    fails_at (Some (j, r)) is =
        ap (if_valid member_numbers_in_range) (one_member depth k ts s r j named is)
        ∙ sound_none member_numbers_in_range (member k j) (object_rest depth r) (λ ms. out_at _ refl ms)
      where
        out_at : (b : Bool) → all_numbers_in_range j ≡ b → (ms : Members) → member_numbers_in_range (member k j ms) ≡ false
        out_at true fits ms =
            let never : Some (j, r) ≡ None = sym (is_sound all_numbers_in_range (value depth s) j r is fits) ∙ none in cc
        out_at false out ms = rw out refl
