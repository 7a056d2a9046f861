-- `$timestamp` (MongoDB Extended JSON v2): two numbers from 0 to 4294967295.
-- Read and written: {"$timestamp": {"t": 1, "i": 2}}.
use Rattle.std.specs.Prelude.{ℕ, codes}
use Rattle.serde_json.specs.Data.{Data}
use Rattle.bson_scalar.specs.TreeParts.{one_key_object, two_key_object, natural}
use Rattle.bson_scalar.specs.Table.{key_of}
use Rattle.bson_scalar.specs.declared.wrapper.Wrapper.TheVariants.{Timestamp}

-- t is the time, i the increment
abbrev pub timestamp_tree : (seconds increment : ℕ) → Data
timestamp_tree seconds increment =
    one_key_object (key_of Timestamp) (two_key_object (codes "i") (natural increment) (codes "t") (natural seconds))
