-- What a source of bytes has read, and what it wrote to a sink.
use Rattle.std.specs.Prelude.{◌≡◌, ℕ, Bool, true, false, List, [], ◌∷◌, Some, None, Result, Ok, Err}
use Rattle.bson_model.specs.Value.{Value, Pairs, no_pairs, pair}
use Rattle.bson_bytes.specs.Reading.{EarlierKeys}
use Rattle.bson_bytes.specs.declared.fault.Fault.{Fault}
use Rattle.bson_model.specs.declared.options.DuplicateKeys.{DuplicateKeys}
use Rattle.bson_model.specs.declared.options.DuplicateKeys.TheVariants.{LastWins, Reject}
use Rattle.bson_bytes.specs.declared.stop.Stop.{Stop}
use Rattle.bson_bytes.specs.declared.stop.Stop.TheVariants as stops

-- reading has this fault, or the sink stops for a reason that it may have
abbrev pub StopsReadingFor : {Parsed : Type 0} → (MayStop : Stop → Type 0) → Stop → (read_result : Result Parsed Fault)
    → Type 0
StopsReadingFor MayStop (stops.Fault fault) read_result = read_result ≡ Err fault
StopsReadingFor MayStop stops.GaveUp read_result = MayStop stops.GaveUp
StopsReadingFor MayStop stops.OutOfMemory read_result = MayStop stops.OutOfMemory

-- the bytes are read as a value, with these bytes left after it, and this holds for both the value and the result
abbrev pub ReadsTo : {Returned Parsed : Type 0} → (MayStop : Stop → Type 0) → (rest : Returned → List ℕ)
    → (Holds : Parsed → Returned → Type 0)
    → Result Returned Stop
    → (read_result : Result (Parsed × List ℕ) Fault) → Type 0
ReadsTo {Returned} {Parsed} MayStop rest Holds (Ok returned) read_result =
    (value_read : Parsed) × (read_result ≡ Ok (value_read, rest returned))
    × Holds value_read returned
ReadsTo MayStop rest Holds (Err stop) read_result = StopsReadingFor MayStop stop read_result

-- all of the bytes are read as pairs, and this holds for both the pairs and the result
abbrev pub ReadsAllTo : {Returned : Type 0} → (MayStop : Stop → Type 0) → (Holds : Pairs → Returned → Type 0)
    → Result Returned Stop
    → (read_result : Result Pairs Fault) → Type 0
ReadsAllTo MayStop Holds (Ok returned) read_result = (pairs : Pairs) × (read_result ≡ Ok pairs) × Holds pairs returned
ReadsAllTo MayStop Holds (Err stop) read_result = StopsReadingFor MayStop stop read_result

-- the reason is not a fault of the bytes
abbrev pub IsSinkStop : Stop → Type 0
IsSinkStop (stops.Fault fault) = ⊥
IsSinkStop stop = Unit {0}

-- the pairs, and this one after them
abbrev pub with_last_pair : Pairs → (key : List ℕ) → (new_value : Value) → Pairs
with_last_pair no_pairs key new_value = pair key new_value no_pairs
with_last_pair (pair first_key first_value other_pairs) key new_value =
    pair first_key first_value (with_last_pair other_pairs key new_value)

-- the keys of the pairs, the last one first, before these
abbrev pub reversed_keys : Pairs → (later_keys : List (List ℕ)) → List (List ℕ)
reversed_keys no_pairs later_keys = later_keys
reversed_keys (pair key first_value other_pairs) later_keys = reversed_keys other_pairs (key ∷ later_keys)

-- the keys that a document (true) of these pairs may not have again; an array may have any names
abbrev pub earlier_keys : DuplicateKeys → (is_document : Bool) → Pairs → EarlierKeys
earlier_keys LastWins is_document pairs = None
earlier_keys Reject true pairs = Some (reversed_keys pairs [])
earlier_keys Reject false pairs = None
