-- The sixteen wrapper keys (MongoDB Extended JSON v2). All other keys are ordinary, `$scope`, `$ref` and `$id` among
-- them.
use Rattle.std.specs.Prelude.{ℕ, List, codes, Bool, ◌||◌, false, if◌then◌else◌, Option, Some, None, is_some}
use Rattle.std.specs.Str.{bytes_eq}
use Rattle.serde_json.specs.Data.{Members, no_members, member}
pub use Rattle.bson_scalar.specs.declared.wrapper.Wrapper.{Wrapper}
pub use Rattle.bson_scalar.specs.declared.wrapper.Wrapper.TheVariants.{Oid, Symbol, RegularExpression, NumberInt}
pub use Rattle.bson_scalar.specs.declared.wrapper.Wrapper.TheVariants.{NumberLong, NumberDouble, NumberDecimal, Binary}
pub use Rattle.bson_scalar.specs.declared.wrapper.Wrapper.TheVariants.{Uuid, Code, Timestamp, Date, MinKey, MaxKey}
pub use Rattle.bson_scalar.specs.declared.wrapper.Wrapper.TheVariants.{DbPointer, Undefined}

abbrev pub key_of : Wrapper → List ℕ
key_of Oid = codes "$oid"
key_of Symbol = codes "$symbol"
key_of RegularExpression = codes "$regularExpression"
key_of NumberInt = codes "$numberInt"
key_of NumberLong = codes "$numberLong"
key_of NumberDouble = codes "$numberDouble"
key_of NumberDecimal = codes "$numberDecimal"
key_of Binary = codes "$binary"
key_of Uuid = codes "$uuid"
key_of Code = codes "$code"
key_of Timestamp = codes "$timestamp"
key_of Date = codes "$date"
key_of MinKey = codes "$minKey"
key_of MaxKey = codes "$maxKey"
key_of DbPointer = codes "$dbPointer"
key_of Undefined = codes "$undefined"

abbrev pub timestamp_or_later_wrapper : (key : List ℕ) → Option Wrapper
timestamp_or_later_wrapper key =
    if bytes_eq key (codes "$timestamp") then Some Timestamp
    else if bytes_eq key (codes "$date") then Some Date
    else if bytes_eq key (codes "$minKey") then Some MinKey
    else if bytes_eq key (codes "$maxKey") then Some MaxKey
    else if bytes_eq key (codes "$undefined") then Some Undefined
    else None

abbrev pub number_or_later_wrapper : (key : List ℕ) → Option Wrapper
number_or_later_wrapper key =
    if bytes_eq key (codes "$numberInt") then Some NumberInt
    else if bytes_eq key (codes "$numberLong") then Some NumberLong
    else if bytes_eq key (codes "$numberDouble") then Some NumberDouble
    else if bytes_eq key (codes "$numberDecimal") then Some NumberDecimal
    else timestamp_or_later_wrapper key

abbrev pub later_wrapper : (key : List ℕ) → Option Wrapper
later_wrapper key =
    if bytes_eq key (codes "$uuid") then Some Uuid
    else if bytes_eq key (codes "$code") then Some Code
    else if bytes_eq key (codes "$dbPointer") then Some DbPointer
    else number_or_later_wrapper key

abbrev pub wrapper_of : (key : List ℕ) → Option Wrapper
wrapper_of key =
    if bytes_eq key (codes "$oid") then Some Oid
    else if bytes_eq key (codes "$symbol") then Some Symbol
    else if bytes_eq key (codes "$regularExpression") then Some RegularExpression
    else if bytes_eq key (codes "$binary") then Some Binary
    else later_wrapper key

-- whether any key is a wrapper key
abbrev pub has_wrapper : Members → Bool
has_wrapper no_members = false
has_wrapper (member member_key subtree member_list) = is_some (wrapper_of member_key) || has_wrapper member_list
