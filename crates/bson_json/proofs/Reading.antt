-- What is read of a text is what the grammar gives it.
use Rattle.std.proofs.Common.{◌≡◌, ◌≢◌, ◌≤◌, ℕ, max, Bool, true, false, List, [], ◌∷◌, Option, Some, None, is_some, true≢false, option_and_then, option_map, refl, sym, ap, ◌∙◌, append-nil, arith}
use Rattle.json.specs.Json.{Json, value, if_last, skip_value}
use Rattle.json.specs.Lex.{tokens}
use Rattle.json.specs.Token.{Token}
use Rattle.json.specs.Tree.{json_tokens, depth}
use Rattle.serde_json.specs.Data.{Data}
use Rattle.serde_json.specs.Read.{read, of_json, max_depth}
use Rattle.json.proofs.Grammar.{left_some}
use Rattle.json.proofs.Nesting.{value-depth}
use Rattle.json.proofs.Printed.Trees.{value-json_tokens}
use Rattle.json.proofs.Unique.Spelling.{value-json_tokens_back}
use Rattle.bson_tokens.specs.DuplicateKeys.{json_of}
use Rattle.bson_json.specs.Grammar.{IsJson, IsJsonText, IsJsonOf}
use Rattle.bson_json.proofs.Back.{text_back}
use Rattle.bson_json.proofs.Forward.{text_tokens}

none_some : {A P : Type 0} (a : A) → None ≡ Some a → P
none_some a e = absurd (true≢false (ap is_some (sym e)))

abbrev or_else : {A : Type 0} → A → Option A → A
or_else a None = a
or_else a (Some b) = b

some_inj : {A : Type 0} (a b : A) → Some a ≡ Some b → a ≡ b
some_inj a b e = ap (or_else a) e

whole : (o : Option (Json × List Token)) (j : Json) → option_and_then (λ p. if_last p.0 p.1) o ≡ Some j → o ≡ Some (j, [])
whole None j e = none_some j e
whole (Some (i, [])) j e = ap (λ k. Some (k, [])) (some_inj i j e)
whole (Some (i, t ∷ ts)) j e = none_some j e

pub value_from : (d : ℕ) (text : List ℕ) (j : Json) → IsJson text j → depth j ≤ d → value d (tokens text) ≡ Some (j, [])
value_from d text j h n = ap (value d) (text_tokens h ∙ sym (append-nil (json_tokens j))) ∙ value-json_tokens j d [] n

pub value_to : (d : ℕ) (text : List ℕ) (j : Json) → value d (tokens text) ≡ Some (j, []) → IsJson text j × (depth j ≤ d)
value_to d text j e = (text_back text j (value-json_tokens_back d (tokens text) [] j e ∙ append-nil (json_tokens j)), value-depth d (tokens text) [] j e)

pub json_from : (text : List ℕ) (j : Json) → IsJson text j → depth j ≤ max_depth → json_of text ≡ Some j
json_from text j h n = ap (option_and_then (λ p. if_last p.0 p.1)) (value_from max_depth text j h n)

pub json_to : (text : List ℕ) (j : Json) → json_of text ≡ Some j → IsJson text j × (depth j ≤ max_depth)
json_to text j e = value_to max_depth text j (whole (value max_depth (tokens text)) j e)

pub one_value : (text : List ℕ) (j k : Json) → IsJson text j → IsJson text k → j ≡ k
one_value text j k h i =
    let d = max (depth j) (depth k) in
    ap (λ p. p.0) (some_inj (j, []) (k, []) (sym (value_from d text j h (omega arith)) ∙ value_from d text k i (omega arith)))

found : (o : Option Json) (t : Data) → option_and_then of_json o ≡ Some t → (j : Json) × (o ≡ Some j) × (of_json j ≡ Some t)
found None t e = none_some t e
found (Some j) t e = (j, refl, e)

pub tree_to : (text : List ℕ) (t : Data) → read text ≡ Some t → IsJsonOf text t
tree_to text t e = let f = found (json_of text) t e in let h = json_to text f.0 f.1 in (f.0, h.0, h.1, f.2)

pub tree_from : (text : List ℕ) (t : Data) → IsJsonOf text t → read text ≡ Some t
tree_from text t h = ap (option_and_then of_json) (json_from text h.0 h.1 h.2) ∙ h.3

-- ---- passing over a value

pub passed_to : (text : List ℕ) (r : List Token) → skip_value max_depth (tokens text) ≡ Some r → r ≡ [] → IsJsonText text
passed_to text r e n =
    let f = left_some (value max_depth (tokens text)) r e in
    let h = value_to max_depth text f.0 (f.1 ∙ ap (λ l. Some (f.0, l)) n) in
    (f.0, h.0, h.1)

pub passed_from : (text : List ℕ) → IsJsonText text → skip_value max_depth (tokens text) ≡ Some []
passed_from text h = ap (option_map (λ p. p.1)) (value_from max_depth text h.0 h.1 h.2)

pub not_passed : (text : List ℕ) → skip_value max_depth (tokens text) ≡ None → ¬ (IsJsonText text)
not_passed text e h = none_some [] (sym e ∙ passed_from text h)

pub not_ended : (text : List ℕ) (r : List Token) → skip_value max_depth (tokens text) ≡ Some r → r ≢ [] → ¬ (IsJsonText text)
not_ended text r e ne h = ne (some_inj r [] (sym e ∙ passed_from text h))

pub some_token : (t : Token) (ts : List Token) → t ∷ ts ≢ []
some_token t ts e = absurd (true≢false (ap is_more e))
  where
    is_more : List Token → Bool
    is_more [] = false
    is_more (t ∷ ts) = true

-- ---- by computing

pub accepted : (text : List ℕ) (j : Json) → json_of text ≡ Some j → IsJson text j
accepted text j e = (json_to text j e).0

pub refused : (text : List ℕ) → json_of text ≡ None → ¬ (IsJsonText text)
refused text e h = none_some h.0 (sym e ∙ json_from text h.0 h.1 h.2)
