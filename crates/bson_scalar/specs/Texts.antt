-- `$symbol`, and `$code` alone (MongoDB Extended JSON v2): a text.
-- Read and written: {"$symbol": "s"}, {"$code": "s"}.
use Rattle.std.specs.Prelude.{ℕ, List}
use Rattle.serde_json.specs.Data.{Data}
use Rattle.serde_json.specs.Data as tree
use Rattle.bson_scalar.specs.TreeParts.{one_key_object}
use Rattle.bson_scalar.specs.Table.{key_of}
use Rattle.bson_scalar.specs.declared.wrapper.Wrapper.TheVariants.{Symbol, Code}

abbrev pub symbol_tree : (text_bytes : List ℕ) → Data
symbol_tree text_bytes = one_key_object (key_of Symbol) (tree.string text_bytes)

abbrev pub code_tree : (code_text : List ℕ) → Data
code_tree code_text = one_key_object (key_of Code) (tree.string code_text)
