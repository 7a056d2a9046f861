-- `$date` (MongoDB Extended JSON v2): milliseconds since 1970-01-01T00:00:00Z.
-- Read: {"$date": {"$numberLong": "5"}}, {"$date": "1970-01-01T00:00:00.005Z"} (RFC 3339 section 5.6), {"$date": 5}.
-- Written: the first; relaxed, from 1970 to the end of the year 9999, the second.
use Rattle.std.specs.Prelude.{int_le, ◌&&◌, ℕ, ℤ, pos, Bool, List, if◌then◌else◌}
use Rattle.bson_datetime.specs.DateTimeText.{rfc3339_millis_text, rfc3339_text}
use Rattle.serde_json.specs.Data.{Data}
use Rattle.serde_json.specs.Data as tree
use Rattle.bson_scalar.specs.Forms.{is_mongodb}
use Rattle.bson_scalar.specs.Ints.{int64_tree}
use Rattle.bson_scalar.specs.TreeParts.{one_key_object}
use Rattle.bson_scalar.specs.Table.{key_of}
use Rattle.bson_scalar.specs.declared.form.Form.{Form}
use Rattle.bson_scalar.specs.declared.wrapper.Wrapper.TheVariants.{Date}

abbrev pub date_tree : (millis : ℤ) → Data
date_tree millis = one_key_object (key_of Date) (int64_tree millis)

-- from the epoch to the end of the year 9999
abbrev pub is_in_years_1970_to_9999 : (millis : ℤ) → Bool
is_in_years_1970_to_9999 millis = int_le (pos 0) millis && int_le millis (pos 253_402_300_799_999)

-- the string in a relaxed form; in MongoDB's layout a fraction has three digits, as Extended JSON v2 recommends
abbrev pub relaxed_date_text : Form → (millis : ℤ) → List ℕ
relaxed_date_text form millis = if is_mongodb form then rfc3339_millis_text millis else rfc3339_text millis

abbrev pub relaxed_date_tree : (date_text : List ℕ) → (millis : ℤ) → Data
relaxed_date_tree date_text millis =
    if is_in_years_1970_to_9999 millis then one_key_object (key_of Date) (tree.string date_text) else date_tree millis
