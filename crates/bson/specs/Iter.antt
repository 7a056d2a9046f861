-- The pairs that an iterator over a document has not returned yet.
use Rattle.std.specs.Prelude.{ℕ, List}
use Rattle.bson_store.specs.Pairs.{keys, values}
use Rattle.bson.specs.declared.bson.Bson.{Bson}
use Rattle.bson.specs.declared.document.iter.IntoIter.{IntoIter}
use Rattle.bson.specs.declared.document.iter.Iter.{Iter}
use Rattle.bson.specs.declared.document.iter.Keys.{Keys}
use Rattle.bson.specs.declared.document.iter.Values.{Values}

abbrev pub remaining_entries : Iter → List (List ℕ × Bson)
remaining_entries iterator = iterator.pairs

abbrev pub remaining_keys : Keys → List (List ℕ)
remaining_keys iterator = keys (remaining_entries iterator.pairs)

abbrev pub remaining_values : Values → List Bson
remaining_values iterator = values (remaining_entries iterator.pairs)

-- the same of a walk by value
abbrev pub remaining_owned_pairs : IntoIter → List (List ℕ × Bson)
remaining_owned_pairs iterator = iterator.pairs
