-- The text of an array or an object from the texts of its parts.
use Rattle.std.proofs.Common.{◌≡◌, ℕ, Bool, true, false, List, [], ◌∷◌, ◌++◌, refl, sym, ap, ◌∙◌}
use Rattle.json.specs.Print.{quoted, print, print_from}
use Rattle.json.specs.Token.{Token, end_object}
use Rattle.json.proofs.Printed.Tokens.{print_from-append}
use Rattle.serde_json.specs.Data.{Data, Items, no_items, item, array, Members, no_members, member, object}
use Rattle.serde_json.specs.Written.{comma_if}
use Rattle.bson_scalar.specs.TreeText.{json_of_tree, json_of_items, json_of_members, text_of, tokens_of}
use Rattle.bson_scalar.specs.Tokens.{code_tokens}
use Rattle.bson_model.specs.Writing.{with_scope}
use Rattle.bson_tokens.proofs.Offered as json

-- ---- elements

-- the text of elements, after another or at first, with the closing bracket
abbrev pub printed_items : Bool → Items → List ℕ
printed_items needs_comma ds = json.printed_items needs_comma (json_of_items ds)

pub no_more_items : (needs_comma : Bool) → printed_items needs_comma no_items ≡ 93 ∷ []
no_more_items needs_comma = json.no_more_items needs_comma

pub one_more_item : (needs_comma : Bool) (t : Data) (ds : Items)
    → comma_if needs_comma ++ (text_of t ++ printed_items true ds) ≡ printed_items needs_comma (item t ds)
one_more_item needs_comma t ds = json.one_more_item needs_comma (json_of_tree t) (json_of_items ds)

pub array_printed : (ds : Items) → 91 ∷ printed_items false ds ≡ text_of (array ds)
array_printed ds = json.array_printed (json_of_items ds)

-- ---- members

-- the text of members, after another or at first, with the closing brace
abbrev pub printed_members : Bool → Members → List ℕ
printed_members needs_comma ms = json.printed_members needs_comma (json_of_members ms)

pub no_more_members : (needs_comma : Bool) → printed_members needs_comma no_members ≡ 125 ∷ []
no_more_members needs_comma = sym (json.no_more_members needs_comma)

pub one_more_member : (needs_comma : Bool) (k : List ℕ) (t : Data) (ms : Members)
    → comma_if needs_comma ++ ((quoted k ++ 58 ∷ text_of t) ++ printed_members true ms)
    ≡ printed_members needs_comma (member k t ms)
one_more_member needs_comma k t ms = json.one_more_member needs_comma k (json_of_tree t) (json_of_members ms)

pub object_printed : (ms : Members) → 123 ∷ printed_members false ms ≡ text_of (object ms)
object_printed ms = json.brace_printed (json_of_members ms)

-- ---- code with its scope

front_printed : (s : List ℕ) (ts : List Token) → print_from false (code_tokens s ++ ts)
    ≡ print (code_tokens s) ++ print_from false ts
front_printed s ts = print_from-append false (code_tokens s) ts

end_printed : print_from true (end_object ∷ []) ≡ 125 ∷ []
unfolding print_from
end_printed = refl

pub code_printed : (s : List ℕ) (ms : Members)
    → print (code_tokens s) ++ (text_of (object ms) ++ 125 ∷ []) ≡ text_of (with_scope s ms)
code_printed s ms =
    let front = print (code_tokens s) in
    ap (λ l. front ++ (text_of (object ms) ++ l)) (sym end_printed)
    ∙ ap (λ l. front ++ l) (sym (json.printed_then (json_of_tree (object ms)) (end_object ∷ [])))
    ∙ sym (front_printed s (tokens_of (object ms) ++ end_object ∷ []))
