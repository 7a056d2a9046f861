-- The path to a wrong value, as an array of BSON.
use Rattle.std.specs.Prelude.{ℕ, List, [], ◌∷◌, length, decimal}
use Rattle.std.specs.Int.{w64, cast_signed}
use Rattle.bson_scalar.specs.Scalar.{int64, text}
use Rattle.bson_model.specs.Value.{Value, scalar, Pairs, no_pairs, pair}
use Rattle.bson_tree.specs.Place.{PathSegment, key, element}

-- pairs, followed by others
abbrev pub concat_pairs : Pairs → (more_pairs : Pairs) → Pairs
concat_pairs no_pairs more_pairs = more_pairs
concat_pairs (pair name value pairs) more_pairs = pair name value (concat_pairs pairs more_pairs)

abbrev pub name_value : (name : List ℕ) → Value
name_value name = scalar (text name)

-- its number of 64 bits
abbrev pub index_value : (index : ℕ) → Value
index_value index = scalar (int64 (cast_signed w64 index))

-- a key is a string, and an index an integer of 64 bits
abbrev pub segment_value : PathSegment → Value
segment_value (key name) = name_value name
segment_value (element index) = index_value index

-- the elements of a path, whose segments lead from the value outward: the outermost comes first, and the keys are the
-- numbers from 0
abbrev pub path_pairs : List PathSegment → Pairs
path_pairs [] = no_pairs
path_pairs (segment ∷ outer_segments) =
    concat_pairs (path_pairs outer_segments) (pair (decimal (length outer_segments)) (segment_value segment) no_pairs)
