-- The result of `from_str`.
use Rattle.std.specs.Prelude.{◌≡◌, ℕ, List, Result, MatchResult}
use Rattle.bson_decimal.specs.declared.ParseError.{ParseError}
use Rattle.bson_decimal.specs.DecimalStrings.{DenotesDecimal}
use Rattle.bson_decimal.specs.ParseSteps.{decimal_parse_error}

-- the decimal that the string denotes, and only this one; or, if it denotes none, the kind of its error
abbrev pub IsParseResult : List ℕ → Result (List ℕ) ParseError → Type 0
IsParseResult text parse_result =
    MatchResult parse_result
    (λ decimal_bytes. DenotesDecimal text decimal_bytes
    × ((other_bytes : List ℕ) → DenotesDecimal text other_bytes → other_bytes ≡ decimal_bytes))
    (λ parse_error. ((other_bytes : List ℕ) → ¬ (DenotesDecimal text other_bytes))
    × (parse_error ≡ decimal_parse_error text))
