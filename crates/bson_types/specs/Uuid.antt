-- UUIDs: sixteen bytes, and the strings that denote them (RFC 9562 section 4, with digits of either case).
use Rattle.std.specs.Prelude.{◌≡◌, ℕ, List, ◌++◌, length, take, drop, codes}
use Rattle.std.specs.Str.{str_to_ascii_lowercase}
use Rattle.hex.specs.Hex.{IsBytes, encode_lower}
use Rattle.bson_types.specs.HexText.{IsHexText}

-- sixteen bytes
abbrev pub IsUuid : (id : List ℕ) → Type 0
IsUuid id = (length id ≡ 16) × IsBytes id

-- 32 hexadecimal digits, two for each byte
abbrev pub AreUuidDigits : (digits id : List ℕ) → Type 0
AreUuidDigits digits id = IsHexText digits id × (length id ≡ 16)

-- the digits in groups of 8, 4, 4, 4 and 12, with `-` between two groups
abbrev pub with_hyphens : (digits : List ℕ) → List ℕ
with_hyphens digits =
    take 8 digits ++ codes "-" ++ take 4 (drop 8 digits) ++ codes "-" ++ take 4 (drop 12 digits) ++ codes "-"
    ++ take 4 (drop 16 digits) ++ codes "-" ++ drop 20 digits

-- the digits of the id in their groups
abbrev pub IsHyphenatedText : (text id : List ℕ) → Type 0
IsHyphenatedText text id = (digits : List ℕ) × AreUuidDigits digits id × (text ≡ with_hyphens digits)

-- the string that is written, with lower-case digits (RFC 9562 section 4)
abbrev pub hyphenated_text : (id : List ℕ) → List ℕ
hyphenated_text id = with_hyphens (encode_lower id)

-- the prefix of a URN of a UUID, in either case (RFC 8141 section 3.1)
abbrev pub IsUrnPrefix : (prefix : List ℕ) → Type 0
IsUrnPrefix prefix = str_to_ascii_lowercase prefix ≡ codes "urn:uuid:"

-- the four spellings: the digits alone, hyphenated, hyphenated in braces, and as a URN
pub data IsUuidText : (text id : List ℕ) → Type 0 where
  digits_alone : (text id : List ℕ) → AreUuidDigits text id → IsUuidText text id
  hyphenated : (text id : List ℕ) → IsHyphenatedText text id → IsUuidText text id
  braced : (text id : List ℕ) → IsHyphenatedText text id → IsUuidText (codes "{" ++ text ++ codes "}") id
  urn : (prefix text id : List ℕ) → IsUrnPrefix prefix → IsHyphenatedText text id → IsUuidText (prefix ++ text) id
