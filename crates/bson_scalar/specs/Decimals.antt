-- `$numberDecimal` (MongoDB Extended JSON v2): the text of a decimal that a Decimal128 has exactly.
-- Read: {"$numberDecimal": "1.50"}. Written: the printed text.
use Rattle.std.specs.Prelude.{ℕ, List}
use Rattle.bson_decimal.specs.DecimalText.{decimal128_text as decimal_text}
use Rattle.serde_json.specs.Data.{Data}
use Rattle.serde_json.specs.Data as tree
use Rattle.bson_scalar.specs.TreeParts.{one_key_object}
use Rattle.bson_scalar.specs.Table.{key_of}
use Rattle.bson_scalar.specs.declared.wrapper.Wrapper.TheVariants.{NumberDecimal}

abbrev pub decimal_tree : (decimal_bytes : List ℕ) → Data
decimal_tree decimal_bytes = one_key_object (key_of NumberDecimal) (tree.string (decimal_text decimal_bytes))
