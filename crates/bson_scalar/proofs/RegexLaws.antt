-- `$regularExpression`.
use Rattle.std.proofs.Common.{◌≡◌, Ok, ◌∙◌}
use Rattle.std.specs.Prelude.{codes}
use Rattle.serde_json.specs.Data.{Data}
use Rattle.bson_scalar.specs.Means.{MeansScalar, regular_expression}
use Rattle.bson_scalar.specs.Reading.{regex_read}
use Rattle.bson_scalar.specs.Scalar.{Scalar}
use Rattle.bson_scalar.specs.TreeParts.{one_key_object}
use Rattle.bson_scalar.proofs.InverseLemmas.{means_by, un_ok, text_then, two_then, two_same}

pub regex_from : (d : Data) (x : Scalar) → regex_read d ≡ Ok x
    → MeansScalar (one_key_object (codes "$regularExpression") d) x
regex_from d x h =
    let a = two_then (codes "options") (codes "pattern") d _ x h in
    let o = text_then a.0 _ x a.3 in
    let p = text_then a.1 _ x o.2 in
    means_by (codes "$regularExpression") d _ x _ (a.2 ∙ two_same (codes "options") (codes "pattern") o.1 p.1)
    (un_ok _ _ p.2) (regular_expression p.0 o.0)
