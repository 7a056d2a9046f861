use Rattle.std.proofs.Common.{refl, subst}
use Rattle.bson_scalar.specs.Faults.{wrong_shape, wrong_id, IsReadError}
use Rattle.bson_tree.proofs.walk.reason_of_error.Goals as goal

pub returns-in-InvalidObjectId : goal.returns-in-InvalidObjectId
returns-in-InvalidObjectId c = λ read fails.
    let is = subst (λ e. IsReadError e read) c.in-InvalidObjectId.is fails in
    (wrong_id is.0, is.1, (is.0, refl, is.2))

pub returns-in-DeserializationError : goal.returns-in-DeserializationError
returns-in-DeserializationError c = λ read fails.
    let is = subst (λ e. IsReadError e read) c.in-DeserializationError.is fails in
    (wrong_shape, is, refl)
