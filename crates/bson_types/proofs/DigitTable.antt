-- The table of the values of digits.
use Rattle.std.proofs.Common.{◌≡◌, ℕ, ◌<◌, List, get_or, map, Option, refl, sym, ap, ◌∙◌}
use Rattle.std.proofs.lemmas.List.{get_or-map}
use Rattle.uuid.specs.Text.{by_index}
use Rattle.uuid.proofs.TextLemmas.{by_index_at}
use Rattle.hex.specs.Hex.{hex_digit_value}
use Rattle.bson_types.specs.HexText.{below_16}
use Rattle.bson_types.specs.declared.oid.TheConstants.{HEX_DIGIT_VALUES}

table_is_rule : map below_16 HEX_DIGIT_VALUES ≡ by_index 256 hex_digit_value
unfolding by_index
table_is_rule = refl

-- the table has the value of each byte that is a digit
pub table_value : (c : ℕ) → c < 256 → below_16 (get_or HEX_DIGIT_VALUES c 0) ≡ hex_digit_value c
table_value c within =
    sym (get_or-map below_16 HEX_DIGIT_VALUES c 0 (below_16 0) within)
    ∙ ap (λ (l : List (Option ℕ)). get_or l c (below_16 0)) table_is_rule
    ∙ by_index_at 256 hex_digit_value c (below_16 0) within
