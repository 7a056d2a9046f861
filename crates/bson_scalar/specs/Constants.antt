-- `$minKey`, `$maxKey` and `$undefined` (MongoDB Extended JSON v2): one tree each.
-- Read and written: {"$minKey": 1}, {"$maxKey": 1}, {"$undefined": true}.
use Rattle.std.specs.Prelude.{true}
use Rattle.serde_json.specs.Data.{Data}
use Rattle.serde_json.specs.Data as tree
use Rattle.bson_scalar.specs.TreeParts.{one_key_object, natural}
use Rattle.bson_scalar.specs.Table.{key_of}
use Rattle.bson_scalar.specs.declared.wrapper.Wrapper.TheVariants.{MinKey, MaxKey, Undefined}

abbrev pub min_key_tree : Data
min_key_tree = one_key_object (key_of MinKey) (natural 1)

abbrev pub max_key_tree : Data
max_key_tree = one_key_object (key_of MaxKey) (natural 1)

abbrev pub undefined_tree : Data
undefined_tree = one_key_object (key_of Undefined) (tree.boolean true)
