-- How a timestamp is shown: `Timestamp(t, i)`.
use Rattle.std.specs.Prelude.{ℕ, ◌++◌, List, codes}
use Rattle.std.specs.Fmt.{decimal}
use Rattle.bson_types.specs.declared.timestamp.Timestamp.{Timestamp}

abbrev pub timestamp_text : Timestamp → List ℕ
timestamp_text timestamp_value =
    codes "Timestamp(" ++ decimal timestamp_value.time ++ codes ", " ++ decimal timestamp_value.increment ++ codes ")"
