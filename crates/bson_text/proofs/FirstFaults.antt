-- What is found in the text that a text is normalized as is found in that text.
use Rattle.std.proofs.Common.{◌≡◌, ℕ, List, [], ◌∷◌, Option, Some, None, option_map, option_and_then, refl, sym, ap, ◌∙◌, subst}
use Rattle.std.proofs.lemmas.Option.{same_Some}
use Rattle.std.specs.Prelude.{Box}
use Rattle.std.specs.declared.alloc.Global.{Global}
use Rattle.json.specs.Json as json
use Rattle.json.specs.Json.{if_last, value}
use Rattle.json.specs.Lex.{tokens}
use Rattle.json.specs.Token.{Token}
use Rattle.serde_json.specs.Data.{Data, null, boolean, number, string, array, object, Items, no_items, item, Members}
use Rattle.serde_json.specs.Data.{no_members, put}
use Rattle.serde_json.specs.Read.{of_json, of_items, of_members, read}
use Rattle.bson_scalar.specs.declared.form.Doubles.{Doubles}
use Rattle.bson_model.specs.Sorted.{sorted}
use Rattle.bson_model.specs.Value.{Value}
use Rattle.bson_model.specs.OrderedTexts.{HasMeaningInOrder}
use Rattle.bson_tree.specs.declared.place.Place.{Place}
use Rattle.bson_tokens.proofs.Offered.{text_read}
use Rattle.bson_tokens.specs.Normalized.{normalized, HasNumbersInRange, ItemsHaveNumbersInRange, MembersHaveNumbersInRange, IsNormalizedText}
use Rattle.bson_model.specs.declared.options.KeyOrder.TheVariants.{Ascending}
use Rattle.bson_tokens.specs.TextErrors.{IsTextPlaceIn}
use Rattle.bson_text.proofs.Normalized.{normalized_rises}
use Rattle.bson_text.specs.ErrorPaths.{LocatesTextError}
use Rattle.bson_text.specs.declared.traversal_error.TraversalError.{TraversalError}
use Rattle.bson_text.specs.declared.traversal_error.TraversalError.TheVariants.{Fault}

-- JSON whose numbers are in range has a tree
mutual
  has_tree : (j : json.Json) → HasNumbersInRange j → (t : Data) × (of_json j ≡ Some t)
  has_tree json.null has = (null, refl)
  has_tree (json.boolean b) has = (boolean b, refl)
  has_tree (json.number s) has = (number has.0, ap (option_map number) has.1)
  has_tree (json.string s) has = (string s, refl)
  has_tree (json.array js) has = let t = has_items js has in (array t.0, ap (option_map array) t.1)
  has_tree (json.object ms) has = let t = has_members ms no_members has in (object t.0, ap (option_map object) t.1)

  has_items : (js : json.Items) → ItemsHaveNumbersInRange js → (ts : Items) × (of_items js ≡ Some ts)
  has_items json.no_items has = (no_items, refl)
  has_items (json.item j js) has =
      let t = has_tree j has.0 in
      let u = has_items js has.1 in
      (item t.0 u.0, rw (t.1, u.1) refl)

  has_members : (ms : json.Members) (found : Members) → MembersHaveNumbersInRange ms
      → (ts : Members) × (of_members ms found ≡ Some ts)
  has_members json.no_members found has = (found, refl)
  has_members (json.member k j ms) found has =
      let t = has_tree j has.0 in
      let u = has_members ms (put k t.0 found) has.1 in
      (u.0, ap (option_and_then (λ d. of_members ms (put k d found))) t.1 ∙ u.1)

whole : (o : Option (json.Json × List Token)) (j : json.Json) → option_and_then (λ p. if_last p.0 p.1) o ≡ Some j
    → o ≡ Some (j, [])
whole None j h = absurd cc
whole (Some (i, [])) j h = ap (λ x. Some (x, [])) (same_Some i j h)
whole (Some (i, t ∷ ts)) j h = absurd cc

module _ (D : Doubles) (text written : List ℕ) (is : IsNormalizedText Ascending text written) where
  -- the normalized text means a value
  pub none_in_text : (v : Value) → HasMeaningInOrder D written v → IsTextPlaceIn D text None
  none_in_text v m =
      let (t, tree, means) = m.by_default in
      (t, sym (text_read Ascending text written is) ∙ tree, (sorted v, means.means))

  -- it has its first fault at the place
  pub first_in_text : (e : TraversalError) (place : Box Place Global) → e ≡ Fault place → LocatesTextError D e written
      → IsTextPlaceIn D text (Some place.value)
  first_in_text e place here located =
      let (t, has) = has_tree is.tree is.numbers in
      let j = normalized Ascending is.tree in
      let tree : read text ≡ Some t = ap (option_and_then of_json) is.is_tree ∙ has in
      let again : of_json j ≡ Some t =
      sym (ap (option_and_then of_json) is.read_again) ∙ text_read Ascending text written is ∙ tree in
      let at = subst (λ s. LocatesTextError D s written) here located in
      (t, tree, at j t (whole (value 127 (tokens written)) j is.read_again) (normalized_rises is.tree) again)
