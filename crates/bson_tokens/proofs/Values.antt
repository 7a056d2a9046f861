-- A value by the token with which it begins.
use Rattle.std.proofs.Common.{◌≡◌, ℕ, ◌-◌, ◌<◌, ◌⊎◌, inl, inr, List, [], ◌∷◌, Option, None, Some, true, refl, ap, ◌∙◌, subst, Bor}
use Rattle.std.specs.Prelude as prelude
use Rattle.json.specs.Json.{Json, array, object, boolean, null, number, string, parse_map, value}
use Rattle.json.specs.Print.{print}
use Rattle.json.specs.Reads.{token_of}
use Rattle.json.specs.Token.{Token}
use Rattle.json.specs.Token as token
use Rattle.json.specs.declared.token.Token as found
use Rattle.json.specs.declared.token.Token.TheVariants.{EndObject, EndArray, Key, String, Bool, Null, Bad}
use Rattle.json.proofs.Grammar.{value_is, value-begin_array, value-begin_object}
use Rattle.bson_tokens.specs.Normalized.{normalized}
use Rattle.bson_tokens.specs.NormalizerStates.{AppendedAfterComma, ReadAndNormalized, ValueAppended, array_rest, object_rest, is_number_in_range, if_valid}
use Rattle.bson_tokens.specs.NormalizerStates.{all_numbers_in_range, item_numbers_in_range, member_numbers_in_range}
use Rattle.bson_tokens.specs.declared.normalizer.Normalizer.{Normalizer}
use Rattle.bson_tokens.proofs.Ranged.{is_sound, none_sound, sound_under}

module _ (depth : ℕ) (all ts : List Token) where
  -- ---- a value of one token

  alone : (t : Token) (j : Json) (old new : Normalizer) → all ≡ t ∷ ts → value depth (t ∷ ts) ≡ Some (j, ts)
      → all_numbers_in_range j ≡ true → ValueAppended old (normalized old.key_order j) new
      → ReadAndNormalized (if_valid all_numbers_in_range (value depth all)) (normalized old.key_order) ts old new
  alone t j old new is read fits added =
      (j, is_sound all_numbers_in_range (value depth all) j ts (ap (value depth) is ∙ read) fits, added)

  pub plain_passes : (t : found.Token) (old new : Normalizer) → all ≡ token_of t ∷ ts
      → ((s : Bor (List ℕ)) × (t ≡ String s)) ⊎ ((b : prelude.Bool) × (t ≡ Bool b)) ⊎ (t ≡ Null)
      → AppendedAfterComma old (print (token_of t ∷ [])) true new
      → ReadAndNormalized (if_valid all_numbers_in_range (value depth all)) (normalized old.key_order) ts old new
  plain_passes t old new is (inl (s, e)) added =
      alone (token.string s.now) (string s.now) old new (is ∙ ap (λ k. token_of k ∷ ts) e)
      (value_is depth (token.string s.now ∷ ts)) refl (subst (λ k. AppendedAfterComma old (print (token_of k ∷ [])) true new) e added)
  plain_passes t old new is (inr (inl (b, e))) added =
      alone (token.boolean b) (boolean b) old new (is ∙ ap (λ k. token_of k ∷ ts) e)
      (value_is depth (token.boolean b ∷ ts)) refl (subst (λ k. AppendedAfterComma old (print (token_of k ∷ [])) true new) e added)
  plain_passes t old new is (inr (inr e)) added =
      alone token.null null old new (is ∙ ap (λ k. token_of k ∷ ts) e)
      (value_is depth (token.null ∷ ts)) refl (subst (λ k. AppendedAfterComma old (print (token_of k ∷ [])) true new) e added)

  pub number_passes : (s : List ℕ) (old new : Normalizer) → all ≡ token.number s ∷ ts → is_number_in_range s ≡ true
      → ValueAppended old (number s) new → ReadAndNormalized (if_valid all_numbers_in_range (value depth all)) (normalized old.key_order) ts old new
  number_passes s old new is fits added =
      alone (token.number s) (number s) old new is (value_is depth (token.number s ∷ ts)) fits added

  pub number_fails : (s : List ℕ) → all ≡ token.number s ∷ ts → is_number_in_range s ≡ prelude.false
      → if_valid all_numbers_in_range (value depth all) ≡ None
  number_fails s is fits =
      ap (λ us. if_valid all_numbers_in_range (value depth us)) is ∙ ap (if_valid all_numbers_in_range) (value_is depth (token.number s ∷ ts)) ∙ rw fits refl

  -- ---- no value

  no_value : (t : Token) → all ≡ t ∷ ts → value depth (t ∷ ts) ≡ None → if_valid all_numbers_in_range (value depth all) ≡ None
  no_value t is none = none_sound all_numbers_in_range (value depth all) (ap (value depth) is ∙ none)

  pub none_begins : (t : found.Token) → all ≡ token_of t ∷ ts
      → (t ≡ EndObject) ⊎ (t ≡ EndArray) ⊎ ((s : Bor (List ℕ)) × (t ≡ Key s)) ⊎ (t ≡ Bad)
      → if_valid all_numbers_in_range (value depth all) ≡ None
  none_begins t is (inl e) =
      no_value token.end_object (is ∙ ap (λ k. token_of k ∷ ts) e) (value_is depth (token.end_object ∷ ts))
  none_begins t is (inr (inl e)) =
      no_value token.end_array (is ∙ ap (λ k. token_of k ∷ ts) e) (value_is depth (token.end_array ∷ ts))
  none_begins t is (inr (inr (inl (s, e)))) =
      no_value (token.key s.now) (is ∙ ap (λ k. token_of k ∷ ts) e) (value_is depth (token.key s.now ∷ ts))
  none_begins t is (inr (inr (inr e))) =
      no_value token.bad (is ∙ ap (λ k. token_of k ∷ ts) e) (value_is depth (token.bad ∷ ts))

  -- ---- arrays and objects

  pub array_opened : all ≡ token.begin_array ∷ ts → 0 < depth
      → if_valid all_numbers_in_range (value depth all) ≡ parse_map array (if_valid item_numbers_in_range (array_rest (depth - 1) ts))
  array_opened is left =
      ap (λ us. if_valid all_numbers_in_range (value depth us)) is ∙ ap (if_valid all_numbers_in_range) (value-begin_array depth ts left)
      ∙ sound_under item_numbers_in_range all_numbers_in_range array (array_rest (depth - 1) ts) (λ js. refl)

  pub object_opened : all ≡ token.begin_object ∷ ts → 0 < depth
      → if_valid all_numbers_in_range (value depth all) ≡ parse_map object (if_valid member_numbers_in_range (object_rest (depth - 1) ts))
  object_opened is left =
      ap (λ us. if_valid all_numbers_in_range (value depth us)) is ∙ ap (if_valid all_numbers_in_range) (value-begin_object depth ts left)
      ∙ sound_under member_numbers_in_range all_numbers_in_range object (object_rest (depth - 1) ts) (λ ms. refl)

  -- what was read of it is the value
  pub opened_passes : {A : Type 0} (wrap : A → Json) (part : Option (A × List Token)) (rest : List Token)
      (old new : Normalizer) → if_valid all_numbers_in_range (value depth all) ≡ parse_map wrap part
      → ReadAndNormalized part (λ a. normalized old.key_order (wrap a)) rest old new
      → ReadAndNormalized (if_valid all_numbers_in_range (value depth all)) (normalized old.key_order) rest old new
  opened_passes wrap part rest old new opened (a, read, added) =
      (wrap a, opened ∙ ap (parse_map wrap) read, added)

  pub opened_breaks : {A : Type 0} (wrap : A → Json) (part : Option (A × List Token))
      → if_valid all_numbers_in_range (value depth all) ≡ parse_map wrap part → part ≡ None → if_valid all_numbers_in_range (value depth all) ≡ None
  opened_breaks wrap part opened none = opened ∙ ap (parse_map wrap) none

  pub array_too_deep : all ≡ token.begin_array ∷ ts → depth ≡ 0 → if_valid all_numbers_in_range (value depth all) ≡ None
  array_too_deep is deep =
      no_value token.begin_array is (ap (λ d. value d (token.begin_array ∷ ts)) deep ∙ value_is 0 (token.begin_array ∷ ts))

  pub object_too_deep : all ≡ token.begin_object ∷ ts → depth ≡ 0 → if_valid all_numbers_in_range (value depth all) ≡ None
  object_too_deep is deep =
      no_value token.begin_object is (ap (λ d. value d (token.begin_object ∷ ts)) deep ∙ value_is 0 (token.begin_object ∷ ts))

pub empty_fails : (depth : ℕ) (ts : List Token) → ts ≡ [] → if_valid all_numbers_in_range (value depth ts) ≡ None
empty_fails depth ts none = none_sound all_numbers_in_range (value depth ts) (ap (value depth) none ∙ value_is depth [])
