-- What bytes mean as a text, and why they mean nothing.
use Rattle.std.specs.Prelude.{ℕ, List}
use Rattle.serde_json.specs.Data.{Data}
use Rattle.bson_scalar.specs.declared.form.Doubles.{Doubles}
use Rattle.bson_scalar.specs.declared.form.Doubles.TheVariants.{Special}
use Rattle.bson_tree.specs.Place.{IsFirstFaultIn}
use Rattle.bson.specs.declared.extjson.text_error.TextError.{TextError}
use Rattle.bson.specs.declared.extjson.text_error.TextError.TheVariants.{NotJson, NotExtendedJson, OutOfMemory}
pub use Rattle.bson_model.specs.TextMeaning.{IsTextOf, IsNotJsonText, HasTextMeaningIn, HasTextMeaning}
pub use Rattle.bson_model.specs.TextMeaning.{HasTextMeaningInKeyOrder, TextMeansInKeyOrder, RoundTripsInKeyOrder}

-- why the bytes give no value
abbrev pub IsTextFaultIn : Doubles → (bytes : List ℕ) → TextError → Type 0
IsTextFaultIn doubles bytes NotJson = IsNotJsonText bytes
IsTextFaultIn doubles bytes (NotExtendedJson place) = (json_tree : Data) × IsTextOf bytes json_tree
    × IsFirstFaultIn doubles json_tree place
IsTextFaultIn doubles bytes OutOfMemory = Unit {0}

abbrev pub IsTextFault : (bytes : List ℕ) → TextError → Type 0
IsTextFault = IsTextFaultIn Special
