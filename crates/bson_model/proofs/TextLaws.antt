-- The text of a tree is read as that tree.
use Rattle.std.proofs.Common.{◌≡◌, ℕ, suc, max, ◌≤◌, pos, negsuc, List, [], Option, Some, option_map}
use Rattle.std.proofs.Common.{option_and_then, Less, refl, sym, ap, ap₂, ◌∙◌, subst, arith, append-nil}
use Rattle.json.specs.Lex.{tokens}
use Rattle.json.specs.Json as json
use Rattle.json.specs.Tree as parsed
use Rattle.json.proofs.Printed.Tokens.{tokens-print}
use Rattle.json.proofs.Printed.Trees.{ArePrintable-json_tokens, value-json_tokens}
use Rattle.json.proofs.Printed.Decimals.{IsNumber-decimal, IsNumber-signed_decimal}
use Rattle.serde_json.specs.Data.{Num, unsigned, negative, float, Data, Items, no_items, item, Members, no_members}
use Rattle.serde_json.specs.Data.{member, put, depth, items_depth, members_depth}
use Rattle.serde_json.specs.Data as tree
use Rattle.serde_json.specs.Read.{number_of, of_json, of_items, of_members, read, max_depth}
use Rattle.serde_json.proofs.Numbers.{number_of-decimal, number_of-negative}
use Rattle.bson_scalar.specs.TreeText.{number_text, json_of_tree, json_of_items, json_of_members, text_of, HasNoFloatIn}
use Rattle.bson_scalar.specs.TreeText.{tree_text}
use Rattle.bson_scalar.specs.declared.form.Doubles.{Doubles}
use Rattle.bson_scalar.specs.declared.form.Form.{Form}
use Rattle.bson_scalar.proofs.Offered.{float_is_number, float_is_read, text_is}
use Rattle.bson_model.specs.Texts.{NumberFits, IsBelowMemberKeys, MemberKeysAscend, IsTree, ItemsAreTrees, MembersAreTrees, TextReadsBackIn}
use Rattle.bson_model.proofs.PutSwap.{cmp, flipped}
use Rattle.bson_model.proofs.OptionalValues.{un_some}

-- ---- the tokens of the text are those of the tree

mutual
  pub numbers : (d : Data) → IsTree d → parsed.HasNumbers (json_of_tree d)
  numbers tree.null t = tt
  numbers (tree.boolean b) t = tt
  numbers (tree.number (unsigned n)) t = IsNumber-decimal n t
  numbers (tree.number (negative (pos n))) t = absurd t
  numbers (tree.number (negative (negsuc n))) t = IsNumber-signed_decimal (negsuc n) t
  numbers (tree.number (float x)) t = float_is_number x t
  numbers (tree.string s) t = tt
  numbers (tree.array ds) t = items_numbers ds t
  numbers (tree.object ms) t = members_numbers ms t.1

  items_numbers : (ds : Items) → ItemsAreTrees ds → parsed.ItemsHaveNumbers (json_of_items ds)
  items_numbers no_items t = tt
  items_numbers (item d ds) t = (numbers d t.0, items_numbers ds t.1)

  members_numbers : (ms : Members) → MembersAreTrees ms → parsed.MembersHaveNumbers (json_of_members ms)
  members_numbers no_members t = tt
  members_numbers (member k d ms) t = (numbers d t.0, members_numbers ms t.1)

mutual
  pub same_depth : (d : Data) → parsed.depth (json_of_tree d) ≡ depth d
  same_depth tree.null = refl
  same_depth (tree.boolean b) = refl
  same_depth (tree.number n) = refl
  same_depth (tree.string s) = refl
  same_depth (tree.array ds) = ap suc (items_same_depth ds)
  same_depth (tree.object ms) = ap suc (members_same_depth ms)

  items_same_depth : (ds : Items) → parsed.items_depth (json_of_items ds) ≡ items_depth ds
  items_same_depth no_items = refl
  items_same_depth (item d ds) = ap₂ max (same_depth d) (items_same_depth ds)

  members_same_depth : (ms : Members) → parsed.members_depth (json_of_members ms) ≡ members_depth ms
  members_same_depth no_members = refl
  members_same_depth (member k d ms) = ap₂ max (same_depth d) (members_same_depth ms)

-- ---- the members go in one after another

abbrev pub joined : Members → Members → Members
joined no_members ms = ms
joined (member l e found) ms = member l e (joined found ms)

pub joined_again : (found : Members) (k : List ℕ) (d : Data) (ms : Members)
    → joined (joined found (member k d no_members)) ms ≡ joined found (member k d ms)
joined_again no_members k d ms = refl
joined_again (member l e found) k d ms = ap (member l e) (joined_again found k d ms)

pub joined_none : (found : Members) → joined found no_members ≡ found
joined_none no_members = refl
joined_none (member l e found) = ap (member l e) (joined_none found)

below_key : (l : List ℕ) (found : Members) (k : List ℕ) (d : Data) (ms : Members)
    → IsBelowMemberKeys l (joined found (member k d ms)) → cmp l k ≡ Less
below_key l no_members k d ms h = h.0
below_key l (member a e found) k d ms h = below_key l found k d ms h.1

-- a key above all others becomes the last
put_last : (found : Members) (k : List ℕ) (d : Data) (ms : Members) → MemberKeysAscend (joined found (member k d ms))
    → put k d found ≡ joined found (member k d no_members)
put_last no_members k d ms h = refl
put_last (member l e found) k d ms h =
    rw (flipped l k Less (below_key l found k d ms h.0)) (ap (member l e) (put_last found k d ms h.1))

-- ---- what is parsed is the tree

pub number_back : (n : Num) → NumberFits n → number_of (number_text n) ≡ Some n
number_back (unsigned n) t = number_of-decimal n t
number_back (negative (pos n)) t = absurd t
number_back (negative (negsuc n)) t = number_of-negative n t
number_back (float x) t = float_is_read x t

mutual
  data_back : (d : Data) → IsTree d → of_json (json_of_tree d) ≡ Some d
  data_back tree.null t = refl
  data_back (tree.boolean b) t = refl
  data_back (tree.number n) t = ap (option_map tree.number) (number_back n t)
  data_back (tree.string s) t = refl
  data_back (tree.array ds) t = ap (option_map tree.array) (items_back ds t)
  data_back (tree.object ms) t = ap (option_map tree.object) (members_back ms no_members t.0 t.1)

  items_back : (ds : Items) → ItemsAreTrees ds → of_items (json_of_items ds) ≡ Some ds
  items_back no_items t = refl
  items_back (item d ds) t = rw (data_back d t.0, items_back ds t.1) refl

  members_back : (ms found : Members) → MemberKeysAscend (joined found ms) → MembersAreTrees ms
      → of_members (json_of_members ms) found ≡ Some (joined found ms)
  members_back no_members found up t = ap Some (sym (joined_none found))
  members_back (member k d ms) found up t =
      let last = put_last found k d ms up in
      let again = joined_again found k d ms in
      rw (data_back d t.0, last)
      (members_back ms (joined found (member k d no_members)) (subst MemberKeysAscend (sym again) up) t.1
      ∙ ap Some again)

-- the tree that a text is, nested no deeper than n
abbrev read_within : ℕ → List ℕ → Option Data
read_within n text = option_and_then of_json (option_and_then (λ p. json.if_last p.0 p.1) (json.value n (tokens text)))

back_within : (n : ℕ) (d : Data) → IsTree d → depth d ≤ n → read_within n (text_of d) ≡ Some d
back_within n d t shallow =
    let printed = tokens-print (parsed.json_tokens (json_of_tree d)) (ArePrintable-json_tokens (json_of_tree d) (numbers d t)) in
    let value = ap (json.value n) (printed ∙ sym (append-nil (parsed.json_tokens (json_of_tree d))))
    ∙ value-json_tokens (json_of_tree d) n [] (omega (arith, same_depth d)) in
    ap (λ o. option_and_then of_json (option_and_then (λ p. json.if_last p.0 p.1) o)) value ∙ data_back d t

-- two trees, however deep, have one text only where they are equal
one_text : (d e : Data) → IsTree d → IsTree e → text_of d ≡ text_of e → d ≡ e
one_text d e t s same =
    let n = max (depth d) (depth e) in
    un_some d e (sym (back_within n d t (omega arith)) ∙ ap (read_within n) same ∙ back_within n e s (omega arith))

-- ---- in each mode and form

module _ (D : Doubles) (f : Form) where
  -- the text is read as the tree, unless it nests deeper than texts may
  pub text_back : (d : Data) → HasNoFloatIn D f d → IsTree d → depth d ≤ max_depth → read (tree_text D f d) ≡ Some d
  text_back d h t shallow = ap read (text_is D f d h) ∙ back_within max_depth d t shallow

  pub one_tree : (d e : Data) → HasNoFloatIn D f d → IsTree d → HasNoFloatIn D f e → IsTree e
      → tree_text D f d ≡ tree_text D f e → d ≡ e
  one_tree d e h t g s same = one_text d e t s (sym (text_is D f d h) ∙ same ∙ text_is D f e g)

  pub own_text : (t : Data) → HasNoFloatIn D f t → IsTree t → TextReadsBackIn D f t
  own_text t h is = (text_back t h is, λ u g s same. one_tree t u h is g s same)
