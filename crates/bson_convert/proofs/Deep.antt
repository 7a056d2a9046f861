-- A text is read only if its tree nests no deeper than a text may.
use Rattle.std.proofs.Common.{◌≡◌, ◌≤◌, ℕ, max, List, [], ◌∷◌, ◌++◌, Option, None, Some, option_and_then, option_map, refl, sym, ap, ◌∙◌, arith, append-nil}
use Rattle.std.specs.Prelude.{unwrap_or}
use Rattle.json.specs.Json.{Json, if_last, value}
use Rattle.json.specs.Lex.{tokens}
use Rattle.json.specs.Print.{print}
use Rattle.json.specs.Token.{Token}
use Rattle.json.specs.Tree as parsed
use Rattle.json.proofs.Nesting.{value-depth}
use Rattle.json.proofs.Printed.Tokens.{tokens-print}
use Rattle.json.proofs.Printed.Trees.{ArePrintable-json_tokens, value-json_tokens}
use Rattle.json.proofs.Unique.Spelling.{value-json_tokens_back}
use Rattle.serde_json.specs.Data.{Data, depth}
use Rattle.serde_json.specs.Read.{max_depth, of_json, read}
use Rattle.bson_scalar.specs.TreeText.{HasNoFloatIn, json_of_tree, text_of, tree_text}
use Rattle.bson_scalar.specs.declared.form.Doubles.{Doubles}
use Rattle.bson_scalar.specs.declared.form.Form.{Form}
use Rattle.bson_scalar.proofs.Offered.{text_is}
use Rattle.bson_model.proofs.Offered.{same_depth}

one_value : (i j : Json) → parsed.json_tokens i ≡ parsed.json_tokens j → i ≡ j
one_value i j same =
    let n = max (parsed.depth i) (parsed.depth j) in
    let read : value n (parsed.json_tokens i ++ []) ≡ Some (i, []) = value-json_tokens i n [] (omega arith) in
    let also : value n (parsed.json_tokens j ++ []) ≡ Some (j, []) = value-json_tokens j n [] (omega arith) in
    ap (λ r. unwrap_or (option_map (λ p. p.0) r) i) (sym read ∙ ap (λ ts. value n (ts ++ [])) same ∙ also)

-- ---- what is read of a text

abbrev pub whole : Option (Json × List Token) → Option Json
whole r = option_and_then (λ p. if_last p.0 p.1) r

-- it is one value, and nothing after it
pub parsed_whole : {A : Type 0} (of : Json → Option A) (r : Option (Json × List Token)) (t : A)
    → option_and_then of (whole r) ≡ Some t → (j : Json) × (r ≡ Some (j, []))
parsed_whole of None t h = absurd cc
parsed_whole of (Some (j, [])) t h = (j, refl)
parsed_whole of (Some (j, x ∷ xs)) t h = absurd cc

nests_within : (n : ℕ) (d : Data) (j : Json) → parsed.HasNumbers (json_of_tree d) → value n (tokens (text_of d)) ≡ Some (j, [])
    → depth d ≤ n
nests_within n d j fit h =
    let ts = parsed.json_tokens (json_of_tree d) in
    let printed : tokens (print ts) ≡ ts = tokens-print ts (ArePrintable-json_tokens (json_of_tree d) fit) in
    let spelled : tokens (text_of d) ≡ parsed.json_tokens j ++ [] = value-json_tokens_back n (tokens (text_of d)) [] j h in
    let same : j ≡ json_of_tree d =
    one_value j (json_of_tree d) (sym (append-nil (parsed.json_tokens j)) ∙ sym spelled ∙ printed) in
    omega (arith, value-depth n (tokens (text_of d)) [] j h, ap parsed.depth same, same_depth d)

module _ (D : Doubles) (f : Form) (d : Data) (no_float : HasNoFloatIn D f d) (fit : parsed.HasNumbers (json_of_tree d)) where
  pub shallow : (t : Data) → read (tree_text D f d) ≡ Some t → depth d ≤ max_depth
  shallow t h =
      let text = text_is D f d no_float in
      let it = parsed_whole of_json (value max_depth (tokens (text_of d))) t (ap read (sym text) ∙ h) in
      nests_within max_depth d it.0 fit it.1

  -- its tokens are one value, as deep as the tree
  pub text_parsed : value (depth d) (tokens (tree_text D f d)) ≡ Some (json_of_tree d, [])
  text_parsed =
      let ts = parsed.json_tokens (json_of_tree d) in
      let printed : tokens (print ts) ≡ ts = tokens-print ts (ArePrintable-json_tokens (json_of_tree d) fit) in
      ap (λ s. value (depth d) (tokens s)) (text_is D f d no_float) ∙ ap (value (depth d)) (printed ∙ sym (append-nil ts))
      ∙ value-json_tokens (json_of_tree d) (depth d) [] (omega (arith, same_depth d))
