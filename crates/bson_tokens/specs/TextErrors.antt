-- The first error of a text.
use Rattle.std.specs.Prelude.{◌≡◌, ℕ, List, Option, Some, MatchOption}
use Rattle.bson_scalar.specs.declared.form.Doubles.{Doubles}
use Rattle.serde_json.specs.Data.{Data}
use Rattle.serde_json.specs.Read.{read}
use Rattle.bson_tree.specs.Place.{HasValueIn, IsFirstFaultIn}
use Rattle.bson_tree.specs.declared.place.Place.{Place}

-- the text has a tree; the tree has a value, or its first error is at this path, for its reason
abbrev pub IsTextPlaceIn : Doubles → (text : List ℕ) → (place : Option Place) → Type 0
IsTextPlaceIn doubles text place =
    (text_tree : Data) × (read text ≡ Some text_tree)
    × MatchOption place (HasValueIn doubles text_tree) (IsFirstFaultIn doubles text_tree)
