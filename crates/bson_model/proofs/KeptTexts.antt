-- The compact text of a tree, whatever the order of its keys, is read as that tree.
use Rattle.std.proofs.Common.{◌≡◌, ℕ, suc, max, ◌≤◌, pos, negsuc, List, [], false, Option, Some}
use Rattle.std.proofs.Common.{option_map, option_and_then, refl, sym, ap, ◌∙◌, subst, arith, append-nil}
use Rattle.std.proofs.lemmas.Bool.{or_parts}
use Rattle.std.specs.Str.{bytes_eq}
use Rattle.json.specs.Lex.{tokens}
use Rattle.json.specs.Json as json
use Rattle.json.specs.Tree as parsed
use Rattle.json.proofs.Printed.Tokens.{tokens-print}
use Rattle.json.proofs.Printed.Trees.{ArePrintable-json_tokens, value-json_tokens}
use Rattle.json.proofs.Printed.Decimals.{IsNumber-decimal, IsNumber-signed_decimal}
use Rattle.serde_json.specs.Data.{Num, unsigned, negative, float, Data, Items, no_items, item, Members, no_members}
use Rattle.serde_json.specs.Data.{member, depth}
use Rattle.serde_json.specs.Data as tree
use Rattle.serde_json.specs.Read.{max_depth}
use Rattle.bson_scalar.specs.TreeText.{json_of_tree, json_of_items, json_of_members, text_of, HasNoFloatIn, tree_text}
use Rattle.bson_scalar.specs.declared.form.Doubles.{Doubles}
use Rattle.bson_scalar.specs.declared.form.Form.{Form}
use Rattle.bson_scalar.proofs.Offered.{float_is_number, text_is}
use Rattle.bson_model.proofs.Offered.{number_back, same_depth}
use Rattle.bson_model.specs.OrderedTrees.{put_at_key_position, tree_of_json, items_of_json, members_of_json, tree_sorted_by_key, has_key, KeysDiffer, read_in_order}
use Rattle.bson_model.specs.OrderedTrees.{IsTreeInOrder, ItemsAreTreesInOrder, MembersAreTreesInOrder}
use Rattle.bson_model.specs.OrderedTexts.{TextReadsBackInOrder}
use Rattle.bson_model.proofs.Forgetting.{read_forgotten}
use Rattle.bson_model.proofs.OptionalValues.{un_some, turned}
use Rattle.bson_model.proofs.TextLaws.{joined, joined_again, joined_none}

-- ---- the tokens of the text are those of the tree

mutual
  numbers : (d : Data) → IsTreeInOrder d → parsed.HasNumbers (json_of_tree d)
  numbers tree.null t = tt
  numbers (tree.boolean b) t = tt
  numbers (tree.number (unsigned n)) t = IsNumber-decimal n t
  numbers (tree.number (negative (pos n))) t = absurd t
  numbers (tree.number (negative (negsuc n))) t = IsNumber-signed_decimal (negsuc n) t
  numbers (tree.number (float x)) t = float_is_number x t
  numbers (tree.string s) t = tt
  numbers (tree.array ds) t = items_numbers ds t
  numbers (tree.object ms) t = members_numbers ms t.1

  items_numbers : (ds : Items) → ItemsAreTreesInOrder ds → parsed.ItemsHaveNumbers (json_of_items ds)
  items_numbers no_items t = tt
  items_numbers (item d ds) t = (numbers d t.0, items_numbers ds t.1)

  members_numbers : (ms : Members) → MembersAreTreesInOrder ms → parsed.MembersHaveNumbers (json_of_members ms)
  members_numbers no_members t = tt
  members_numbers (member k d ms) t = (numbers d t.0, members_numbers ms t.1)

-- ---- the members go in one after another

apart_from : (l : List ℕ) (found : Members) (k : List ℕ) (d : Data) (ms : Members)
    → has_key l (joined found (member k d ms)) ≡ false → bytes_eq l k ≡ false
apart_from l no_members k d ms h = (or_parts (bytes_eq l k) (has_key l ms) h).0
apart_from l (member a e found) k d ms h =
    apart_from l found k d ms (or_parts (bytes_eq l a) (has_key l (joined found (member k d ms))) h).1

-- a new key becomes the last
pub put_last : (found : Members) (k : List ℕ) (d : Data) (ms : Members) → KeysDiffer (joined found (member k d ms))
    → put_at_key_position k d found ≡ joined found (member k d no_members)
put_last no_members k d ms h = refl
put_last (member l e found) k d ms h =
    let apart : bytes_eq k l ≡ false = turned l k (apart_from l found k d ms h.0) in
    rw apart (ap (member l e) (put_last found k d ms h.1))

-- ---- what is parsed is the tree

mutual
  data_back : (d : Data) → IsTreeInOrder d → tree_of_json (json_of_tree d) ≡ Some d
  data_back tree.null t = refl
  data_back (tree.boolean b) t = refl
  data_back (tree.number n) t = ap (option_map tree.number) (number_back n t)
  data_back (tree.string s) t = refl
  data_back (tree.array ds) t = ap (option_map tree.array) (items_back ds t)
  data_back (tree.object ms) t = ap (option_map tree.object) (members_back ms no_members t.0 t.1)

  items_back : (ds : Items) → ItemsAreTreesInOrder ds → items_of_json (json_of_items ds) ≡ Some ds
  items_back no_items t = refl
  items_back (item d ds) t = rw (data_back d t.0, items_back ds t.1) refl

  members_back : (ms found : Members) → KeysDiffer (joined found ms) → MembersAreTreesInOrder ms
      → members_of_json (json_of_members ms) found ≡ Some (joined found ms)
  members_back no_members found up t = ap Some (sym (joined_none found))
  members_back (member k d ms) found up t =
      let last = put_last found k d ms up in
      let again = joined_again found k d ms in
      rw (data_back d t.0, last)
      (members_back ms (joined found (member k d no_members)) (subst KeysDiffer (sym again) up) t.1
      ∙ ap Some again)

-- the tree that a text is, nested no deeper than n
abbrev read_within : ℕ → List ℕ → Option Data
read_within n text = option_and_then tree_of_json (option_and_then (λ p. json.if_last p.0 p.1) (json.value n (tokens text)))

back_within : (n : ℕ) (d : Data) → IsTreeInOrder d → depth d ≤ n → read_within n (text_of d) ≡ Some d
back_within n d t shallow =
    let printed = tokens-print (parsed.json_tokens (json_of_tree d)) (ArePrintable-json_tokens (json_of_tree d) (numbers d t)) in
    let value = ap (json.value n) (printed ∙ sym (append-nil (parsed.json_tokens (json_of_tree d))))
    ∙ value-json_tokens (json_of_tree d) n [] (omega (arith, same_depth d)) in
    ap (λ o. option_and_then tree_of_json (option_and_then (λ p. json.if_last p.0 p.1) o)) value ∙ data_back d t

-- two trees, however deep, have one text only where they are equal
one_text : (d e : Data) → IsTreeInOrder d → IsTreeInOrder e → text_of d ≡ text_of e → d ≡ e
one_text d e t s same =
    let n = max (depth d) (depth e) in
    un_some d e (sym (back_within n d t (omega arith)) ∙ ap (read_within n) same ∙ back_within n e s (omega arith))

pub own_text : (D : Doubles) (f : Form) (t : Data) → HasNoFloatIn D f t → IsTreeInOrder t → TextReadsBackInOrder D f t
own_text D f d h t =
    let is = text_is D f d h in
    let read = λ (shallow : depth d ≤ max_depth). back_within max_depth d t shallow in
    record {
      in_order = λ shallow. ap read_in_order is ∙ read shallow;
      sorted = λ shallow. read_forgotten (tree_text D f d) ∙ ap (option_map tree_sorted_by_key) (ap read_in_order is ∙ read shallow);
      one = λ e g s same. one_text d e t s (sym is ∙ same ∙ text_is D f e g);
    }
