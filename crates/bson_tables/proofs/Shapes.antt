-- Trees and values as the rows write them, and what proves a row.
use Rattle.std.proofs.Common.{◌≡◌, ℕ, Ok, Err}
use Rattle.serde_json.specs.Data.{Data, unsigned, negative, no_items, item, no_members, member}
use Rattle.serde_json.specs.Data as tree
use Rattle.bson_scalar.specs.Faults.{Fault}
use Rattle.bson_model.specs.Fault.{MeansNothing}
use Rattle.bson_model.specs.Means.{Means}
use Rattle.bson_model.specs.Reading.{reads_tree}
use Rattle.bson_model.specs.Value.{Value}
use Rattle.bson_model.proofs.Offered.{means_from, means_to}

abbrev pub whole : ℕ → Data
whole n = tree.number (unsigned n)

abbrev pub list_of_two : Data → Data → Data
list_of_two d e = tree.array (item d (item e no_items))

-- a row of the grammar
pub row : (t : Data) (v : Value) → reads_tree t ≡ Ok v → Means t v
row = means_from

-- a row of what means nothing
pub none : (t : Data) (e : Fault) → reads_tree t ≡ Err e → MeansNothing t
none t e h v m = let g = means_to m in cc
