-- `$regularExpression` (MongoDB Extended JSON v2): two texts, the options sorted by character.
-- Read: {"$regularExpression": {"pattern": "a", "options": "xi"}}. Written with the options "ix".
use Rattle.std.specs.Prelude.{ℕ, List, codes}
use Rattle.serde_json.specs.Data.{Data}
use Rattle.serde_json.specs.Data as tree
use Rattle.bson_scalar.specs.TreeParts.{one_key_object, two_key_object}
use Rattle.bson_scalar.specs.Table.{key_of}
use Rattle.bson_scalar.specs.declared.wrapper.Wrapper.TheVariants.{RegularExpression}

abbrev pub regex_tree : (pattern options : List ℕ) → Data
regex_tree pattern options =
    one_key_object (key_of RegularExpression)
    (two_key_object (codes "options") (tree.string options) (codes "pattern") (tree.string pattern))
