-- What a text is that was written from the tokens of another, its keys in the order.
use Rattle.std.specs.Prelude.{◌≡◌, ℕ, List}
use Rattle.bson_scalar.specs.declared.form.Doubles.{Doubles}
use Rattle.bson_scalar.specs.declared.form.Form.{Form}
use Rattle.bson_model.specs.Displayed.{display_text}
use Rattle.bson_model.specs.TextMeaning.{HasTextMeaningInKeyOrder}
use Rattle.bson_model.specs.Value.{Value}
use Rattle.bson_model.specs.ValueTexts.{IsTextInKeyOrder}
use Rattle.bson_model.specs.declared.options.KeyOrder.{KeyOrder}

-- the text means a value, and the other is the compact text of that value in the form
abbrev pub IsFilteredText : KeyOrder → Doubles → Form → (text written : List ℕ) → Type 0
IsFilteredText key_order doubles form text written = (value : Value)
    × HasTextMeaningInKeyOrder key_order doubles text value × IsTextInKeyOrder key_order doubles form value written

-- the text means a value, and the other is the text that shows that value
abbrev pub IsShownText : KeyOrder → Doubles → (text written : List ℕ) → Type 0
IsShownText key_order doubles text written = (value : Value)
    × HasTextMeaningInKeyOrder key_order doubles text value × (written ≡ display_text value)
