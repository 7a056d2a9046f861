-- What a document or an array in its bytes contains.
use Rattle.bson_model.specs.Value.{Pairs, Values}
use Rattle.bson_bytes.specs.Grammar.{deduplicated, pair_values}
use Rattle.bson_bytes.specs.Reading.{read_first_document}
use Rattle.bson_bytes.specs.ReadElements.{pairs_or_none}
use Rattle.bson_bytes.specs.declared.raw_document.RawDocument.{RawDocument}
use Rattle.bson_bytes.specs.declared.raw_document.RawArray.{RawArray}

-- the elements in the order of the bytes, in which a key may occur twice
abbrev pub raw_elements : RawDocument → Pairs
raw_elements document = pairs_or_none (read_first_document document.depth document.bytes.now)

-- one pair for each key: its last value, at its first position
abbrev pub raw_contents : RawDocument → Pairs
raw_contents document = deduplicated (raw_elements document)

-- the values of an array
abbrev pub raw_array_values : RawArray → Values
raw_array_values array = pair_values (raw_elements array.elements)
