-- A value by the token with which it begins.
use Rattle.std.proofs.Common.{◌≡◌, ℕ, ◌-◌, ◌<◌, ◌⊎◌, inl, inr, List, [], ◌∷◌, ◌++◌, None, ap, ◌∙◌, append_assoc, Bor}
use Rattle.std.specs.Prelude as prelude
use Rattle.json.specs.Json.{array, object, boolean, null, number, string, parse_map, value}
use Rattle.json.specs.Reads.{token_of}
use Rattle.json.specs.Token.{Token}
use Rattle.json.specs.Token as token
use Rattle.json.specs.declared.token.Token as found
use Rattle.json.specs.declared.token.Token.TheVariants.{BeginObject, EndObject, BeginArray, EndArray, Key, String, Number}
use Rattle.json.specs.declared.token.Token.TheVariants.{Bool, Null, Bad}
use Rattle.json.proofs.Grammar.{value_is, value-begin_array, value-begin_object}
use Rattle.bson_tokens.specs.NormalizerStates.{array_rest, object_rest}
use Rattle.bson_v1.specs.WrittenTokens.{WritesTokens, upgraded_items_tokens, upgraded_object_tokens, upgraded_value_tokens}

module _ (depth : ℕ) (t : found.Token) (ts : List Token) where
  -- it is a value of its own
  pub plain_passes : (old new : List Token)
      → ((s : Bor (List ℕ)) × (t ≡ String s)) ⊎ ((s : Bor (List ℕ)) × (t ≡ Number s))
      ⊎ ((b : prelude.Bool) × (t ≡ Bool b)) ⊎ (t ≡ Null)
      → new ≡ old ++ token_of t ∷ [] → WritesTokens upgraded_value_tokens (value depth (token_of t ∷ ts)) ts old new
  plain_passes old new (inl (s, e)) is = (
    string s.now,
    ap (λ k. value depth (token_of k ∷ ts)) e ∙ value_is depth (token.string s.now ∷ ts),
    is ∙ ap (λ k. old ++ token_of k ∷ []) e,
  )
  plain_passes old new (inr (inl (s, e))) is = (
    number s.now,
    ap (λ k. value depth (token_of k ∷ ts)) e ∙ value_is depth (token.number s.now ∷ ts),
    is ∙ ap (λ k. old ++ token_of k ∷ []) e,
  )
  plain_passes old new (inr (inr (inl (b, e)))) is = (
    boolean b,
    ap (λ k. value depth (token_of k ∷ ts)) e ∙ value_is depth (token.boolean b ∷ ts),
    is ∙ ap (λ k. old ++ token_of k ∷ []) e,
  )
  plain_passes old new (inr (inr (inr e))) is = (
    null,
    ap (λ k. value depth (token_of k ∷ ts)) e ∙ value_is depth (token.null ∷ ts),
    is ∙ ap (λ k. old ++ token_of k ∷ []) e,
  )

  -- it closes, or is a key or no token
  pub none_begins : (t ≡ EndObject) ⊎ (t ≡ EndArray) ⊎ ((s : Bor (List ℕ)) × (t ≡ Key s)) ⊎ (t ≡ Bad)
      → value depth (token_of t ∷ ts) ≡ None
  none_begins (inl e) = ap (λ k. value depth (token_of k ∷ ts)) e ∙ value_is depth (token.end_object ∷ ts)
  none_begins (inr (inl e)) = ap (λ k. value depth (token_of k ∷ ts)) e ∙ value_is depth (token.end_array ∷ ts)
  none_begins (inr (inr (inl (s, e)))) =
      ap (λ k. value depth (token_of k ∷ ts)) e ∙ value_is depth (token.key s.now ∷ ts)
  none_begins (inr (inr (inr e))) = ap (λ k. value depth (token_of k ∷ ts)) e ∙ value_is depth (token.bad ∷ ts)

  -- it opens a list
  pub array_opened : t ≡ BeginArray → 0 < depth
      → value depth (token_of t ∷ ts) ≡ parse_map array (array_rest (depth - 1) ts)
  array_opened e left = ap (λ k. value depth (token_of k ∷ ts)) e ∙ value-begin_array depth ts left

  pub array_passes : (rest old begun new : List Token) → t ≡ BeginArray → 0 < depth
      → begun ≡ old ++ token.begin_array ∷ [] → WritesTokens upgraded_items_tokens (array_rest (depth - 1) ts) rest begun new
      → WritesTokens upgraded_value_tokens (value depth (token_of t ∷ ts)) rest old new
  array_passes rest old begun new e left begin (js, read, is) = (
    array js,
    array_opened e left ∙ ap (parse_map array) read,
    is ∙ ap (λ o. o ++ upgraded_items_tokens js) begin ∙ append_assoc old (token.begin_array ∷ []) (upgraded_items_tokens js),
  )

  pub array_too_deep : t ≡ BeginArray → depth ≡ 0 → value depth (token_of t ∷ ts) ≡ None
  array_too_deep e deep =
      ap (λ k. value depth (token_of k ∷ ts)) e ∙ ap (λ d. value d (token.begin_array ∷ ts)) deep
      ∙ value_is 0 (token.begin_array ∷ ts)

  -- it opens an object
  pub object_opened : t ≡ BeginObject → 0 < depth
      → value depth (token_of t ∷ ts) ≡ parse_map object (object_rest (depth - 1) ts)
  object_opened e left = ap (λ k. value depth (token_of k ∷ ts)) e ∙ value-begin_object depth ts left

  pub object_passes : (rest old new : List Token) → t ≡ BeginObject → 0 < depth
      → WritesTokens upgraded_object_tokens (object_rest (depth - 1) ts) rest old new
      → WritesTokens upgraded_value_tokens (value depth (token_of t ∷ ts)) rest old new
  object_passes rest old new e left (ms, read, is) =
      (object ms, object_opened e left ∙ ap (parse_map object) read, is)

  pub object_too_deep : t ≡ BeginObject → depth ≡ 0 → value depth (token_of t ∷ ts) ≡ None
  object_too_deep e deep =
      ap (λ k. value depth (token_of k ∷ ts)) e ∙ ap (λ d. value d (token.begin_object ∷ ts)) deep
      ∙ value_is 0 (token.begin_object ∷ ts)
