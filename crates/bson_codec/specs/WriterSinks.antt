-- What a sink has handed to a writer: for private clauses.
use Rattle.std.specs.Prelude.{◌≡◌, ◌++◌, ℕ, List, map, Ok}
use Rattle.std.proofs.Common.{Bor, ap}
use Rattle.serde_json.specs.Data.{object}
use Rattle.bson_scalar.specs.Written.{◌>>=◌}
use Rattle.bson_model.specs.DistinctKeys.{AllKeysDistinct}
use Rattle.bson_model.specs.Normal.{NumbersInRange}
use Rattle.bson_model.specs.Value.{Value, Pairs, no_pairs, pair, document}
use Rattle.bson_text.specs.SortedOutput.{HasSortedPairs, HasSortedValue}
use Rattle.bson_text.specs.TextOutput.{HasPairTokens, HasValueTokens}
use Rattle.bson_text.specs.declared.sorted_writer.SortedWriter.{SortedWriter}
use Rattle.bson_text.specs.declared.text_writer.TextWriter.{TextWriter}

-- its numbers are in range, and no document in it has a key twice
abbrev pub IsSound : Value → Type 0
IsSound bson_value = NumbersInRange bson_value × AllKeysDistinct bson_value

abbrev pub AreSound : Pairs → Type 0
AreSound no_pairs = Unit {0}
AreSound (pair key first_value other_pairs) = IsSound first_value × AreSound other_pairs

-- a key in memory
abbrev pub Key : Type 0
Key = Bor (List ℕ)

-- these keys come after the old ones
abbrev pub HasKeysAdded : (old_keys : List Key) → (added_keys : List (List ℕ)) → (new_keys : List Key) → Type 0
HasKeysAdded old_keys added_keys new_keys = (keys : List Key) × (new_keys ≡ old_keys ++ keys)
    × (map (λ key. key.now) keys ≡ added_keys)

-- a document that was written is a value that was written
pub embedded_text : (old : TextWriter) (pairs : Pairs) (new : TextWriter) → HasPairTokens old pairs new
    → HasValueTokens old (document pairs) new
embedded_text old pairs new (members, written, sent) =
    (object members, ap (λ result. result >>= λ member_list. Ok (object member_list)) written, sent)

pub embedded_sorted_text : (old : SortedWriter) (pairs : Pairs) (new : SortedWriter) → HasSortedPairs old pairs new
    → HasSortedValue old (document pairs) new
embedded_sorted_text old pairs new (members, written, added) =
    (object members, ap (λ result. result >>= λ member_list. Ok (object member_list)) written, added)
