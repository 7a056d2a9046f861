-- The text of a normalized tree is read as that tree.
use Rattle.std.proofs.Common.{◌≡◌, ℕ, ◌≤◌, List, [], ◌∷◌, Option, Some, None, option_and_then, sym, ap, ◌∙◌}
use Rattle.std.proofs.Common.{arith, append-nil}
use Rattle.json.specs.Json.{Json, null, boolean, number, string, array, object, Items, no_items, item, Members}
use Rattle.json.specs.Json.{no_members, member, if_last, value}
use Rattle.json.specs.Lex.{tokens}
use Rattle.json.specs.Print.{print}
use Rattle.json.specs.Token.{Token}
use Rattle.json.specs.Tree.{json_tokens, depth, items_depth, members_depth, HasNumbers, ItemsHaveNumbers}
use Rattle.json.specs.Tree.{MembersHaveNumbers}
use Rattle.json.proofs.Nesting.{value-depth}
use Rattle.json.proofs.Numbered.{value-HasNumbers, ArePrintableOrBad-tokens}
use Rattle.json.proofs.Printed.Tokens.{tokens-print}
use Rattle.json.proofs.Printed.Trees.{value-json_tokens, ArePrintable-json_tokens}
use Rattle.serde_json.specs.Read.{max_depth}
use Rattle.bson_tokens.specs.Normalized.{put_member, normalized, normalized_items, normalized_members}
use Rattle.bson_tokens.specs.DuplicateKeys.{json_of}
use Rattle.bson_model.specs.declared.options.KeyOrder.{KeyOrder}
use Rattle.bson_tokens.proofs.Normalizing.{Each, each_put}

-- ---- the depth

abbrev IsWithin : ℕ → Json → Type 0
IsWithin n j = depth j ≤ n

each_within : (n : ℕ) (ms : Members) → Each (IsWithin n) ms → members_depth ms ≤ n
each_within n no_members are = omega arith
each_within n (member k j ms) are = omega (arith, are.0, each_within n ms are.1)

mutual
  within : (a : KeyOrder) (j : Json) (n : ℕ) → depth j ≤ n → depth (normalized a j) ≤ n
  within a null n h = h
  within a (boolean b) n h = h
  within a (number s) n h = h
  within a (string s) n h = h
  within a (array js) n h = omega (arith, h, items_within a js (items_depth js) (omega arith))
  within a (object ms) n h =
      omega (arith, h, members_within a ms no_members (members_depth ms) (omega arith) tt)

  items_within : (a : KeyOrder) (js : Items) (n : ℕ) → items_depth js ≤ n → items_depth (normalized_items a js) ≤ n
  items_within a no_items n h = h
  items_within a (item j js) n h =
      omega (arith, within a j n (omega arith), items_within a js n (omega arith))

  members_within : (a : KeyOrder) (ms found : Members) (n : ℕ) → members_depth ms ≤ n → Each (IsWithin n) found
      → members_depth (normalized_members a ms found) ≤ n
  members_within a no_members found n h are = each_within n found are
  members_within a (member k j ms) found n h are =
      members_within a ms (put_member a k (normalized a j) found) n (omega arith)
      (each_put (IsWithin n) a k (normalized a j) found (within a j n (omega arith)) are)

pub no_deeper : (a : KeyOrder) (j : Json) → depth (normalized a j) ≤ depth j
no_deeper a j = within a j (depth j) (omega arith)

-- ---- numbers as texts

each_number : (ms : Members) → Each HasNumbers ms → MembersHaveNumbers ms
each_number no_members are = tt
each_number (member k j ms) are = (are.0, each_number ms are.1)

mutual
  pub still_numbers : (a : KeyOrder) (j : Json) → HasNumbers j → HasNumbers (normalized a j)
  still_numbers a null has = has
  still_numbers a (boolean b) has = has
  still_numbers a (number s) has = has
  still_numbers a (string s) has = has
  still_numbers a (array js) has = items_still a js has
  still_numbers a (object ms) has = members_still a ms no_members has tt

  items_still : (a : KeyOrder) (js : Items) → ItemsHaveNumbers js → ItemsHaveNumbers (normalized_items a js)
  items_still a no_items has = has
  items_still a (item j js) has = (still_numbers a j has.0, items_still a js has.1)

  members_still : (a : KeyOrder) (ms found : Members) → MembersHaveNumbers ms → Each HasNumbers found
      → MembersHaveNumbers (normalized_members a ms found)
  members_still a no_members found has are = each_number found are
  members_still a (member k j ms) found has are =
      members_still a ms (put_member a k (normalized a j) found) has.1
      (each_put HasNumbers a k (normalized a j) found (still_numbers a j has.0) are)

-- ---- texts

abbrev whole : Option (Json × List Token) → Option Json
whole o = option_and_then (λ p. if_last p.0 p.1) o

last : (o : Option (Json × List Token)) (j : Json) → whole o ≡ Some j → o ≡ Some (j, [])
last None j h = absurd cc
last (Some (i, [])) j h = let e : i ≡ j = cc in ap (λ x. Some (x, [])) e
last (Some (i, t ∷ ts)) j h = absurd cc

pub text_depth : (text : List ℕ) (j : Json) → json_of text ≡ Some j → depth j ≤ max_depth
text_depth text j h = value-depth max_depth (tokens text) [] j (last (value max_depth (tokens text)) j h)

pub text_numbers : (text : List ℕ) (j : Json) → json_of text ≡ Some j → HasNumbers j
text_numbers text j h =
    value-HasNumbers max_depth (tokens text) [] j (ArePrintableOrBad-tokens text)
    (last (value max_depth (tokens text)) j h)

-- a tree's compact text is read as the tree
pub printed_again : (j : Json) → HasNumbers j → depth j ≤ max_depth → json_of (print (json_tokens j)) ≡ Some j
printed_again j has shallow =
    ap whole (ap (value max_depth) (tokens-print (json_tokens j) (ArePrintable-json_tokens j has)
    ∙ sym (append-nil (json_tokens j))) ∙ value-json_tokens j max_depth [] shallow)

pub normalized_again : (a : KeyOrder) (text : List ℕ) (j : Json) → json_of text ≡ Some j
    → json_of (print (json_tokens (normalized a j))) ≡ Some (normalized a j)
normalized_again a text j h =
    printed_again (normalized a j) (still_numbers a j (text_numbers text j h))
    (omega (arith, no_deeper a j, text_depth text j h))
