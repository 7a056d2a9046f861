-- Documents and arrays that are read into memory: for private clauses.
use Rattle.std.specs.Prelude.{◌≡◌, ℕ, Bool, List, cond, true, false, is_some}
use Rattle.bson_store.specs.Pairs.{get}
use Rattle.bson_store.specs.KeyIndex.{stored_pairs}
use Rattle.bson_store.specs.declared.small.Pair.{Pair}
use Rattle.bson_model.specs.Value.{Pairs}
use Rattle.bson_bytes.specs.Reading.{is_new_key}
use Rattle.bson.specs.View.{pairs_view}
use Rattle.bson.specs.declared.bson.Bson.{Bson}

-- the first fact for a document (true), the second for an array
abbrev pub DocumentOrArray : (is_document : Bool) → (document_fact array_fact : Type 0) → Type 0
DocumentOrArray true document_fact array_fact = document_fact
DocumentOrArray false document_fact array_fact = array_fact

-- the pairs of entries
abbrev pub entries_view : List (Pair Bson) → Pairs
entries_view entries = pairs_view (stored_pairs entries)

-- the keys of the pairs are these
abbrev pub HaveKeys : (keys : List (List ℕ)) → (pairs : List (List ℕ × Bson)) → Type 0
HaveKeys keys pairs = (key : List ℕ) → is_some (get key pairs) ≡ cond (is_new_key key keys) false true
