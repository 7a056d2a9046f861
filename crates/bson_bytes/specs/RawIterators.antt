-- What an iterator over elements in their bytes has left.
use Rattle.std.specs.Prelude.{ℕ, List, [], ◌∷◌}
use Rattle.std.specs.Borrow.{Bor}
use Rattle.bson_model.specs.Value.{Value, Values, no_values, value, Pairs, no_pairs, pair}
use Rattle.bson_bytes.specs.Grammar.{pair_values}
use Rattle.bson_bytes.specs.ReadElements.{pairs_or_none, elements_from_bytes}
use Rattle.bson_bytes.specs.RawView.{raw_view}
use Rattle.bson_bytes.specs.declared.raw_iter.RawArrayIter.{RawArrayIter}
use Rattle.bson_bytes.specs.declared.raw_iter.RawIter.{RawIter}
use Rattle.bson_bytes.specs.declared.raw_value.RawBsonRef.{RawBsonRef}

-- the elements in the order of the bytes, in which a key may occur twice
abbrev pub remaining_elements : RawIter → Pairs
remaining_elements iterator = pairs_or_none (elements_from_bytes iterator.depth iterator.bytes.now)

-- the pairs as a list
abbrev pub pairs_list : Pairs → List (List ℕ × Value)
pairs_list no_pairs = []
pairs_list (pair key first_value other_pairs) = (key, first_value) ∷ pairs_list other_pairs

abbrev pub remaining_pairs_list : RawIter → List (List ℕ × Value)
remaining_pairs_list iterator = pairs_list (remaining_elements iterator)

-- the pair that a key and a value in its bytes are
abbrev pub element_view : (key_and_value : Bor (List ℕ) × RawBsonRef) → List ℕ × Value
element_view key_and_value = (key_and_value.0.now, raw_view key_and_value.1)

-- the values as a list
abbrev pub values_list : Values → List Value
values_list no_values = []
values_list (value first_value other_values) = first_value ∷ values_list other_values

abbrev pub remaining_items : RawArrayIter → List Value
remaining_items iterator = values_list (pair_values (remaining_elements iterator.elements))
