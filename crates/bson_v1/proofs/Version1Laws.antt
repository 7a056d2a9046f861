-- Objects of v1, and trees of v2.
use Rattle.std.proofs.Common.{◌≡◌, ◌↔◌, ◌&&◌, ℕ, List, Bool, true, false, cond, refl, sym, ap, subst, ◌∙◌}
use Rattle.std.proofs.lemmas.Slice.Eq.{bytes_eq-Decides}
use Rattle.std.specs.Prelude.{codes, length, ◌-◌}
use Rattle.std.specs.Str.{bytes_eq}
use Rattle.json.specs.Json.{Json, Items, no_items, item, Members, no_members, member}
use Rattle.json.specs.Json as json
use Rattle.json.specs.Print.{print}
use Rattle.json.specs.Tree.{json_tokens}
use Rattle.bson_scalar.specs.declared.form.Doubles.{Doubles}
use Rattle.bson_model.specs.Value.{Value}
use Rattle.bson_model.specs.OrderedTexts.{HasMeaningInOrder, MeansByDefault}
use Rattle.bson_tokens.specs.Normalized.{normalized, IsNormalizedText}
use Rattle.bson_model.specs.declared.options.KeyOrder.TheVariants.{AsGiven}
use Rattle.bson_tokens.proofs.Offered.{meant, meant_in_order}
use Rattle.bson_v1.specs.Upgraded.{binary, regex, date, uuid, not_v1, shape_of_two_strings, shape_of_two_members, upgraded_wrapper, is_code, is_scope}
use Rattle.bson_v1.specs.Upgraded.{upgraded, upgraded_items, upgraded_members, upgraded_object, upgraded_scope, ends_in_offset, lacks_seconds, is_plain_uuid}
use Rattle.bson_v1.specs.Upgraded.{with_colon, with_seconds, hyphenated, inserted, offset_length, binary_json, regex_json, date_json, uuid_json}
use Rattle.bson_v1.specs.Text.{IsUpgradedText}
use Rattle.bson_v1.specs.Version1.{IsNotVersion1, IsTextOfVersion2, IsVersion1, IsVersion2, ItemsAreVersion2, MembersAreVersion2}
use Rattle.bson_v1.specs.Version1.{EachMemberIsVersion2, two_string_members}
use Rattle.bson_v1.specs.Version1 as v1

pub shape_renewed : (ms : Members) (t : Json) → IsVersion1 ms t → upgraded (json.object ms) ≡ t
shape_renewed x u (v1.binary s t) = refl
shape_renewed x u (v1.binary_type_first s t) = refl
shape_renewed x u (v1.regex s t) = refl
shape_renewed x u (v1.regex_options_first s t) = refl
shape_renewed x u (v1.date_without_colon s ends) = refl
shape_renewed x u (v1.date_without_seconds s lacks) = refl
shape_renewed x u (v1.uuid s plain) = refl

same_key : (k l : List ℕ) → bytes_eq k l ≡ true → k ≡ l
same_key k l h = (bytes_eq-Decides k l).0 h

-- ---- objects of no shape

no_pair : (k s l t : List ℕ) (m n : List ℕ) (u : Json) → bytes_eq k m ≡ true → bytes_eq l n ≡ true
    → IsVersion1 (two_string_members m s n t) u → IsNotVersion1 (two_string_members k s l t) → ⊥
no_pair k s l t m n u first second is none =
    none u (subst (λ x. IsVersion1 (two_string_members x s l t) u) (sym (same_key k m first))
    (subst (λ x. IsVersion1 (two_string_members m s x t) u) (sym (same_key l n second)) is))

plain_cond : {A : Type 0} (b : Bool) (x y : A) → (b ≡ true → ⊥) → cond b x y ≡ y
plain_cond true x y never = absurd (never refl)
plain_cond false x y never = refl

skip : {A : Type 0} (a b : Bool) (x y : A) → (a ≡ true → b ≡ true → ⊥) → cond (a && b) x y ≡ y
skip true true x y never = absurd (never refl refl)
skip true false x y never = refl
skip false b x y never = refl

two_stay : (k s l t : List ℕ) → IsNotVersion1 (two_string_members k s l t) → shape_of_two_strings k s l t ≡ not_v1
two_stay k s l t none =
    skip (bytes_eq k (codes "$binary")) (bytes_eq l (codes "$type")) (binary s t) _
    (λ p q. no_pair k s l t (codes "$binary") (codes "$type") (binary_json s t) p q (v1.binary s t) none)
    ∙ skip (bytes_eq k (codes "$type")) (bytes_eq l (codes "$binary")) (binary t s) _
    (λ p q. no_pair k s l t (codes "$type") (codes "$binary") (binary_json t s) p q (v1.binary_type_first t s) none)
    ∙ skip (bytes_eq k (codes "$regex")) (bytes_eq l (codes "$options")) (regex s t) _
    (λ p q. no_pair k s l t (codes "$regex") (codes "$options") (regex_json s t) p q (v1.regex s t) none)
    ∙ skip (bytes_eq k (codes "$options")) (bytes_eq l (codes "$regex")) (regex t s) not_v1
    (λ p q. no_pair k s l t (codes "$options") (codes "$regex") (regex_json t s) p q (v1.regex_options_first t s) none)

-- a text that stays, in an object of its own
text_stays : (k l s s' : List ℕ) → k ≡ l → s' ≡ s
    → json.object (member l (json.string s') no_members) ≡ json.object (member k (json.string s) no_members)
text_stays k l s s' key same =
    ap (λ x. json.object (member l (json.string x) no_members)) same
    ∙ ap (λ x. json.object (member x (json.string s) no_members)) (sym key)

no_text : (k l s : List ℕ) (u : Json) → k ≡ l → IsVersion1 (member l (json.string s) no_members) u
    → IsNotVersion1 (member k (json.string s) no_members) → ⊥
no_text k l s u key is none = none u (subst (λ x. IsVersion1 (member x (json.string s) no_members) u) (sym key) is)

date_text_stays : (k s : List ℕ) → k ≡ codes "$date" → IsNotVersion1 (member k (json.string s) no_members)
    → with_colon (with_seconds s) ≡ s
date_text_stays k s key none =
    let seconds : with_seconds s ≡ s =
    plain_cond (lacks_seconds s) (inserted s (length s - offset_length s) (codes ":00")) s
    (λ lacks. no_text k (codes "$date") s (date_json s) key (v1.date_without_seconds s lacks) none) in
    let colon : with_colon s ≡ s =
    plain_cond (ends_in_offset s) (inserted s (length s - 2) (codes ":")) s
    (λ ends. no_text k (codes "$date") s (date_json s) key (v1.date_without_colon s ends) none) in
    ap with_colon seconds ∙ colon

uuid_stays : (k s : List ℕ) (b : Bool) → bytes_eq k (codes "$uuid") ≡ b
    → IsNotVersion1 (member k (json.string s) no_members)
    → upgraded_wrapper (cond b (uuid s) not_v1) (member k (json.string s) no_members) ≡ json.object (member k (json.string s) no_members)
uuid_stays k s false is none = refl
uuid_stays k s true is none =
    let key = same_key k (codes "$uuid") is in
    let same : hyphenated s ≡ s =
    plain_cond (is_plain_uuid s) _ s (λ plain. no_text k (codes "$uuid") s (uuid_json s) key (v1.uuid s plain) none) in
    text_stays k (codes "$uuid") s (hyphenated s) key same

date_stays : (k s : List ℕ) (b : Bool) → bytes_eq k (codes "$date") ≡ b
    → IsNotVersion1 (member k (json.string s) no_members)
    → upgraded_wrapper (cond b (date s) (cond (bytes_eq k (codes "$uuid")) (uuid s) not_v1)) (member k (json.string s) no_members)
    ≡ json.object (member k (json.string s) no_members)
date_stays k s false is none = uuid_stays k s (bytes_eq k (codes "$uuid")) refl none
date_stays k s true is none =
    let key = same_key k (codes "$date") is in
    text_stays k (codes "$date") s (with_colon (with_seconds s)) key (date_text_stays k s key none)

pair_stays : (k l : List ℕ) (j i : Json) → IsNotVersion1 (member k j (member l i no_members)) → shape_of_two_members k j l i ≡ not_v1
pair_stays k l json.null i none = refl
pair_stays k l (json.boolean b) i none = refl
pair_stays k l (json.number n) i none = refl
pair_stays k l (json.string s) json.null none = refl
pair_stays k l (json.string s) (json.boolean b) none = refl
pair_stays k l (json.string s) (json.number n) none = refl
pair_stays k l (json.string s) (json.string t) none = two_stay k s l t none
pair_stays k l (json.string s) (json.array js) none = refl
pair_stays k l (json.string s) (json.object ms) none = refl
pair_stays k l (json.array js) i none = refl
pair_stays k l (json.object ms) i none = refl

pub no_shape : (ms : Members) → IsNotVersion1 ms → upgraded (json.object ms) ≡ json.object (upgraded_object ms)
no_shape no_members none = refl
no_shape (member k json.null no_members) none = refl
no_shape (member k (json.boolean b) no_members) none = refl
no_shape (member k (json.number n) no_members) none = refl
no_shape (member k (json.string s) no_members) none = date_stays k s (bytes_eq k (codes "$date")) refl none
no_shape (member k (json.array js) no_members) none = refl
no_shape (member k (json.object ms) no_members) none = refl
no_shape (member k j (member l i no_members)) none =
    ap (λ x. upgraded_wrapper x (upgraded_object (member k j (member l i no_members)))) (pair_stays k l j i none)
no_shape (member k j (member l i (member m h ms))) none = refl

-- ---- trees of v2

each_same : {A : Type 0} (a b : Bool) (x y z w : A) → x ≡ w → y ≡ w → z ≡ w → cond a x (cond b y z) ≡ w
each_same true b x y z w p q r = p
each_same false true x y z w p q r = q
each_same false false x y z w p q r = r

two : (k l : List ℕ) (j j' i i' : Json) (ms ns : Members) → j ≡ j' → i ≡ i' → ms ≡ ns
    → member k j (member l i ms) ≡ member k j' (member l i' ns)
two k l j j' i i' ms ns p q r =
    ap (λ x. member k x (member l i ms)) p ∙ ap (λ x. member k j' (member l x ms)) q
    ∙ ap (λ x. member k j' (member l i' x)) r

mutual
  pub stays : (j : Json) → IsVersion2 j → upgraded j ≡ j
  stays x v1.null = refl
  stays x (v1.boolean b) = refl
  stays x (v1.number s) = refl
  stays x (v1.string s) = refl
  stays x (v1.array js all) = ap json.array (items_stay js all)
  stays x (v1.object ms none inner) = no_shape ms none ∙ ap json.object (object_stays ms inner)

  scope_stays : (j : Json) → IsVersion2 j → upgraded_scope j ≡ j
  scope_stays x v1.null = refl
  scope_stays x (v1.boolean b) = refl
  scope_stays x (v1.number s) = refl
  scope_stays x (v1.string s) = refl
  scope_stays x (v1.array js all) = ap json.array (items_stay js all)
  scope_stays x (v1.object ms none inner) = ap json.object (object_stays ms inner)

  items_stay : (js : Items) → ItemsAreVersion2 js → upgraded_items js ≡ js
  items_stay x v1.none = refl
  items_stay x (v1.next_item j js first all) =
      ap (λ h. item h (upgraded_items js)) (stays j first) ∙ ap (item j) (items_stay js all)

  object_stays : (ms : Members) → MembersAreVersion2 ms → upgraded_object ms ≡ ms
  object_stays x (v1.no_scope ms each) = ordinary_stays ms each
  object_stays x (v1.scope_last s scope ms inner each) =
      two (codes "$code") (codes "$scope") _ (json.string s) _ (json.object scope) _ ms refl
      (ap json.object (object_stays scope inner)) (members_stay ms each)
  object_stays x (v1.scope_first s scope ms inner each) =
      two (codes "$scope") (codes "$code") _ (json.object scope) _ (json.string s) _ ms
      (ap json.object (object_stays scope inner)) refl (members_stay ms each)

  ordinary_stays : (ms : Members) → EachMemberIsVersion2 ms → upgraded_object ms ≡ ms
  ordinary_stays x v1.no_more = refl
  ordinary_stays x (v1.next_member k j ms first v1.no_more) = ap (λ h. member k h no_members) (stays j first)
  ordinary_stays x (v1.next_member k j ms first (v1.next_member l i ns second each)) =
      let rest = members_stay ns each in
      each_same (is_code k j && is_scope l) (is_scope k && is_code l i) _ _ _ (member k j (member l i ns))
      (two k l _ j _ i _ ns (stays j first) (scope_stays i second) rest)
      (two k l _ j _ i _ ns (scope_stays j first) (stays i second) rest)
      (two k l _ j _ i _ ns (stays j first) (stays i second) rest)

  members_stay : (ms : Members) → EachMemberIsVersion2 ms → upgraded_members ms ≡ ms
  members_stay x v1.no_more = refl
  members_stay x (v1.next_member k j ms first each) =
      ap (λ h. member k h (upgraded_members ms)) (stays j first) ∙ ap (member k j) (members_stay ms each)

-- ---- texts

resolved_again : (text written : List ℕ) → IsUpgradedText text written → IsTextOfVersion2 text
    → IsNormalizedText AsGiven text written
resolved_again text written is newer =
    let j = is.text_is_normalized.tree in
    let same = is.compact ∙ ap (λ x. print (json_tokens x)) (stays (normalized AsGiven j) (newer j is.text_is_normalized.is_tree))
    ∙ sym is.text_is_normalized.compact in
    subst (IsNormalizedText AsGiven text) (sym same) is.text_is_normalized

pub kept_in_order : (D : Doubles) (text written : List ℕ) (v : Value) → IsUpgradedText text written
    → IsTextOfVersion2 text → (HasMeaningInOrder D written v ↔ HasMeaningInOrder D text v)
kept_in_order D text written v is newer = meant_in_order D text written v (resolved_again text written is newer)

pub kept_by_default : (D : Doubles) (text written : List ℕ) (v : Value) → IsUpgradedText text written
    → IsTextOfVersion2 text → (MeansByDefault D written v ↔ MeansByDefault D text v)
kept_by_default D text written v is newer = meant D AsGiven text written v (resolved_again text written is newer)
