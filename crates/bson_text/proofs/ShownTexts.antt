-- Texts that a writer of the text that shows values writes one after another.
use Rattle.std.proofs.Common.{◌≡◌, ℕ, ◌+◌, Bool, true, false, List, [], ◌∷◌, ◌++◌, codes, refl, sym, ap}
use Rattle.std.proofs.Common.{◌∙◌, subst, append_assoc}
use Rattle.std.specs.List.{flat_map}
use Rattle.std.specs.Prelude.{IsUtf8}
use Rattle.bson_scalar.specs.declared.form.Doubles.{Doubles}
use Rattle.bson_model.specs.Displayed.{display_text, item_texts}
use Rattle.bson_model.specs.declared.options.KeyOrder.{KeyOrder}
use Rattle.bson_model.specs.declared.options.KeyOrder.TheVariants.{AsGiven, Ascending}
use Rattle.bson_model.specs.Sorted.{sorted, sorted_items}
use Rattle.bson_model.specs.Value as model
use Rattle.bson_model.specs.Value.{Value, Values, no_values, code_scope, document}
use Rattle.bson_model.specs.OrderedTexts.{HasMeaningInOrder}
use Rattle.bson_model.proofs.OfferedInOrder.{meant_by_default}
use Rattle.bson_text.specs.OutputTexts.{IsShownText}
use Rattle.bson_text.specs.DisplayOutput.{HasDisplayAdded, HasDisplayAfterSeparator, HasDisplayOfValue, separator_if}
use Rattle.bson_text.specs.DisplayOutput.{arranged_items, arranged_value}
use Rattle.bson_text.specs.TraversalResults.{ItemsWritten}
use Rattle.bson_text.specs.declared.display_writer.DisplayWriter.{DisplayWriter}

-- what is shown in the order of keys, and with them ascending
pub as_it_is : (v : Value) → arranged_value AsGiven v ≡ v
as_it_is (model.scalar x) = refl
as_it_is (code_scope s ps) = refl
as_it_is (model.array vs) = refl
as_it_is (document ps) = refl

pub as_sorted : (v : Value) → arranged_value Ascending v ≡ sorted v
as_sorted (model.scalar x) = refl
as_sorted (code_scope s ps) = refl
as_sorted (model.array vs) = refl
as_sorted (document ps) = refl

-- a text and then another
pub joined : (a b c : DisplayWriter) (s t : List ℕ) (near needs_comma : Bool) → HasDisplayAdded a s near b → HasDisplayAdded b t needs_comma c
    → HasDisplayAdded a (s ++ t) needs_comma c
joined a b c s t near needs_comma (w, order, member_starts, is) (x, same, kept, more) =
    (x, same ∙ order, kept ∙ member_starts, more ∙ ap (λ l. l ++ t) is ∙ append_assoc a.text.items s t)

-- the same text, as it may be written otherwise
pub as_text : (a b : DisplayWriter) (s t : List ℕ) (needs_comma : Bool) → s ≡ t → HasDisplayAdded a s needs_comma b → HasDisplayAdded a t needs_comma b
as_text a b s t needs_comma is h = subst (λ l. HasDisplayAdded a l needs_comma b) is h

-- ---- arrays

no_items : (a : KeyOrder) → arranged_items a no_values ≡ no_values
no_items AsGiven = refl
no_items Ascending = refl

one_item : (a : KeyOrder) (v : Value) (vs : Values)
    → arranged_items a (model.value v vs) ≡ model.value (arranged_value a v) (arranged_items a vs)
one_item AsGiven v vs = ap (λ w. model.value w vs) (sym (as_it_is v))
one_item Ascending v vs = ap (λ w. model.value w (sorted_items vs)) (sym (as_sorted v))

-- the texts of elements, after another or at first
abbrev parts : Bool → List (List ℕ) → List ℕ
parts needs_comma [] = []
parts needs_comma (t ∷ ts) = separator_if needs_comma ++ (t ++ parts true ts)

abbrev array_end : Bool → Values → List ℕ
array_end needs_comma vs = parts needs_comma (item_texts vs) ++ codes "]"

parts_after : (ts : List (List ℕ)) → parts true ts ≡ flat_map (λ t. codes ", " ++ t) ts
parts_after [] = refl
parts_after (t ∷ ts) = ap (λ l. codes ", " ++ (t ++ l)) (parts_after ts)

array_shown : (vs : Values) → codes "[" ++ array_end false vs ≡ display_text (model.array vs)
array_shown no_values = refl
array_shown (model.value v vs) =
    ap (λ l. codes "[" ++ ((display_text v ++ l) ++ codes "]")) (parts_after (item_texts vs))

items_added : (n : ℕ) (vs : Values) (old now new : DisplayWriter)
    → ItemsWritten (λ a k v b. HasDisplayOfValue a v b) (λ i. []) n vs old now → HasDisplayAdded now (codes "]") true new
    → HasDisplayAdded old (array_end old.needs_comma (arranged_items old.key_order vs)) true new
items_added n no_values old now new is ended =
    as_text old new (codes "]") _ true (ap (array_end old.needs_comma) (sym (no_items old.key_order)))
    (subst (λ a. HasDisplayAdded a (codes "]") true new) (sym is) ended)
items_added n (model.value v vs) old now new (mid, put, more) ended =
    let t = display_text (arranged_value old.key_order v) in
    let front = separator_if old.needs_comma in
    let items = arranged_items old.key_order vs in
    let rest = parts true (item_texts items) in
    as_text old new _ _ true
    (ap (λ b. (front ++ t) ++ array_end b (arranged_items mid.key_order vs)) put.0
    ∙ ap (λ a. (front ++ t) ++ array_end true (arranged_items a vs)) put.1
    ∙ sym (append_assoc (front ++ t) rest (codes "]")) ∙ ap (λ l. l ++ codes "]") (append_assoc front t rest)
    ∙ ap (array_end old.needs_comma) (sym (one_item old.key_order v vs)))
    (joined old mid new (front ++ t) (array_end mid.needs_comma (arranged_items mid.key_order vs)) true true put
    (items_added (n + 1) vs mid now new more ended))

pub array_added : (vs : Values) (old mark now new : DisplayWriter) → HasDisplayAfterSeparator old (codes "[") false mark
    → ItemsWritten (λ a k v b. HasDisplayOfValue a v b) (λ i. []) 0 vs mark now → HasDisplayAdded now (codes "]") true new
    → HasDisplayOfValue old (model.array vs) new
array_added vs old mark now new begin written ended =
    let front = separator_if old.needs_comma in
    let items = array_end mark.needs_comma (arranged_items mark.key_order vs) in
    as_text old new _ _ true
    (append_assoc front (codes "[") items
    ∙ ap (λ b. front ++ (codes "[" ++ array_end b (arranged_items mark.key_order vs))) begin.0
    ∙ ap (λ a. front ++ (codes "[" ++ array_end false (arranged_items a vs))) begin.1
    ∙ ap (λ l. front ++ l) (array_shown (arranged_items old.key_order vs)))
    (joined old mark new (front ++ codes "[") items false true begin (items_added 0 vs mark now new written ended))

-- ---- a whole text

whole_shown : (old new : DisplayWriter) (v : Value) (a : KeyOrder) → HasDisplayOfValue old v new → old.key_order ≡ a
    → old.needs_comma ≡ false → old.text.items ≡ [] → new.text.items ≡ display_text (arranged_value a v)
whole_shown old new v a (after, same, member_starts, shown) order first none =
    shown ∙ ap (λ l. l ++ (separator_if old.needs_comma ++ display_text (arranged_value old.key_order v))) none
    ∙ ap (λ b. separator_if b ++ display_text (arranged_value old.key_order v)) first
    ∙ ap (λ o. display_text (arranged_value o v)) order

pub text_shown : (D : Doubles) (a : KeyOrder) (text : List ℕ) (old new : DisplayWriter) → IsUtf8 text
    → (v : Value) × HasMeaningInOrder D text v × HasDisplayOfValue old v new → old.key_order ≡ a → old.needs_comma ≡ false
    → old.text.items ≡ [] → IsShownText a D text new.text.items
text_shown D AsGiven text old new utf8 (v, meaning, added) order first none =
    (v, (utf8, meaning), whole_shown old new v AsGiven added order first none ∙ ap display_text (as_it_is v))
text_shown D Ascending text old new utf8 (v, meaning, added) order first none = (
  sorted v,
  meant_by_default D text v utf8 meaning,
  whole_shown old new v Ascending added order first none ∙ ap display_text (as_sorted v),
)
