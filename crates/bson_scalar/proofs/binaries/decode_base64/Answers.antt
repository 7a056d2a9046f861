use Rattle.std.proofs.Common.{rules, ℕ, List, ap}
use Rattle.bson_types.specs.Base64.{IsBase64}
use Rattle.bson_scalar.specs.Faults.{or_wrong_shape}
use Rattle.bson_scalar.proofs.BinaryLaws.{bytes_to, bytes_none}
use Rattle.bson_scalar.proofs.binaries.decode_base64.Goals as goal

pub returns-in-Ok : goal.returns-in-Ok
returns-in-Ok c = ap or_wrong_shape (bytes_to c.args.text.now c.in-Ok.field-0.bytes.items c.in-Ok.ensures.ok)

pub returns-in-Err : goal.returns-in-Err
returns-in-Err c =
    let none : (bytes : List ℕ) → ¬ (IsBase64 c.args.text.now bytes) = search rules in
    bytes_none c.args.text.now none
