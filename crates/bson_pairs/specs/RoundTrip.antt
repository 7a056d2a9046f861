-- Which documents round-trip through their texts and their bytes.
use Rattle.std.specs.Prelude.{◌≡◌, ◌≤◌, ℕ, suc, true}
use Rattle.serde_json.specs.Data.{Data, depth}
use Rattle.serde_json.specs.Read.{max_depth}
use Rattle.bson.specs.Doubles.TheVariants.{Finite}
use Rattle.bson.specs.Form.TheVariants.{Canonical}
use Rattle.bson.specs.KeyOrder.TheVariants.{AsGiven}
use Rattle.bson.specs.Options.{Options}
use Rattle.bson.specs.Normal.{normal_form, plain}
use Rattle.bson.specs.Value.{Pairs, document}
use Rattle.bson.specs.WriteError.TheVariants as write_errors
use Rattle.bson.specs.WrittenInOrder.{WrittenInOrder}
use Rattle.bson_scalar.specs.declared.form.Layout.TheVariants.{Specified}
use Rattle.bson_codec.specs.Canonical.{PairsNestUpTo}
use Rattle.bson_codec.specs.declared.de.Error.TheVariants as read_errors
use Rattle.bson_convert.specs.declared.error.Error.TheVariants as errors
use Rattle.bson_pairs.specs.declared.round_trip.RoundTripError.{RoundTripError}
use Rattle.bson_pairs.specs.declared.round_trip.RoundTripError.TheVariants.{NoBytes, NoDocument, NoText}

-- the document is plain and in normal form, and its text nests no deeper than JSON texts may
pub record RoundTrips (pairs : Pairs) : Type 0 where
  pub is_plain : plain (document pairs) ≡ true
  pub is_normal : normal_form (document pairs) ≡ document pairs
  pub is_shallow : (tree : Data) → WrittenInOrder Finite Canonical (document pairs) tree → depth tree ≤ max_depth

-- documents, arrays and scopes nest at most so deep, with the document itself counted
abbrev pub NestsAtMost : (depth : ℕ) → Pairs → Type 0
NestsAtMost depth pairs = (inner_depth : ℕ) × (depth ≡ suc inner_depth) × PairsNestUpTo pairs inner_depth

-- an allocation failed
abbrev pub IsAllocationFailure : RoundTripError → Type 0
IsAllocationFailure (NoBytes inner_error) = inner_error ≡ errors.OutOfMemory
IsAllocationFailure (NoDocument inner_error) = inner_error ≡ read_errors.OutOfMemory
IsAllocationFailure (NoText inner_error) = inner_error ≡ write_errors.OutOfMemory

-- finite doubles, keys as given, and the specified layout
abbrev pub round_trip_options : Options
round_trip_options = record { doubles = Finite; key_order = AsGiven; layout = Specified }
