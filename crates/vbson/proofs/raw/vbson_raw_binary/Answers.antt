use Rattle.std.proofs.Common.{ℕ, ap, ◌∙◌}
use Rattle.std.specs.Prelude.{option_map}
use Rattle.vbson.specs.Raw.{subtype_and_bytes}
use Rattle.vbson.proofs.RawValues.{binary_bytes, never_bytes, typed_none, typed_other, typed_some}
use Rattle.vbson.proofs.raw.vbson_raw_binary.Goals as goal

pub returns-in_default-clause-typed : goal.returns-in_default-clause-typed
returns-in_default-clause-typed c = λ d v h. typed_none binary_bytes never_bytes v (c.in_default.ensures d v h) _

pub returns-clause-typed : goal.returns-clause-typed
returns-clause-typed c =
    λ d v h. typed_some binary_bytes _ v (c.in-Some.ensures d v h) _ _ (ap (option_map subtype_and_bytes) c.in-Some-as_binary.ensures) (ap (λ (n : ℕ). (n, c.in-Some-as_binary.binary.bytes.now)) (c.from-2.ensures ∙ c.from.ensures))

pub returns-in_default-as_binary-clause-typed : goal.returns-in_default-as_binary-clause-typed
returns-in_default-as_binary-clause-typed c =
    λ d v h. typed_other binary_bytes _ v (c.in-Some.ensures d v h) (ap (option_map subtype_and_bytes) c.in_default-as_binary.ensures) _
