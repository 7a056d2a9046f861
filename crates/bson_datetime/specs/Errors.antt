-- The errors of dates, and the string of each message.
use Rattle.std.specs.Prelude.{◌≡◌, ℕ, List, codes}
use Rattle.bson_datetime.specs.declared.error.Message.{Message}
use Rattle.bson_datetime.specs.declared.error.Message.TheVariants.{NotRfc3339, NoSuchDay, NoSuchTime, YearOutOfRange}
use Rattle.bson_datetime.specs.declared.error.Error.{Error}
use Rattle.bson_datetime.specs.declared.error.Error.TheVariants.{InvalidTimestamp, CannotFormat, OutOfMemory}

abbrev pub IsInvalidTimestamp : Error → Type 0
IsInvalidTimestamp (InvalidTimestamp message) = Unit {0}
IsInvalidTimestamp _ = ⊥

-- an error of formatting, with its only message
abbrev pub IsCannotFormat : Error → Type 0
IsCannotFormat (CannotFormat message) = message ≡ YearOutOfRange
IsCannotFormat _ = ⊥

-- the string, or the parts, are rejected with this message
abbrev pub IsInvalidWithMessage : Message → Error → Type 0
IsInvalidWithMessage expected_message (InvalidTimestamp message) = message ≡ expected_message
IsInvalidWithMessage expected_message _ = ⊥

abbrev pub IsOutOfMemory : Error → Type 0
IsOutOfMemory OutOfMemory = Unit {0}
IsOutOfMemory _ = ⊥

abbrev pub message_bytes : Message → List ℕ
message_bytes NotRfc3339 = codes "the text is not a date and time of RFC 3339"
message_bytes NoSuchDay = codes "the calendar has no such day"
message_bytes NoSuchTime = codes "a day has no such time"
message_bytes YearOutOfRange = codes "the year is outside 0000 to 9999"
