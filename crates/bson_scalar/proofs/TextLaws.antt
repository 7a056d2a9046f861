-- `$symbol` and `$code`.
use Rattle.std.proofs.Common.{◌≡◌, Ok}
use Rattle.std.specs.Prelude.{codes}
use Rattle.serde_json.specs.Data.{Data}
use Rattle.bson_scalar.specs.Means.{MeansScalar, symbol, code}
use Rattle.bson_scalar.specs.Reading.{symbol_read, code_read}
use Rattle.bson_scalar.specs.Scalar.{Scalar}
use Rattle.bson_scalar.specs.TreeParts.{one_key_object}
use Rattle.bson_scalar.proofs.InverseLemmas.{means_by, un_ok, text_then}

pub symbol_from : (d : Data) (x : Scalar) → symbol_read d ≡ Ok x → MeansScalar (one_key_object (codes "$symbol") d) x
symbol_from d x h = let t = text_then d _ x h in means_by (codes "$symbol") d _ x _ t.1 (un_ok _ _ t.2) (symbol t.0)

pub code_from : (d : Data) (x : Scalar) → code_read d ≡ Ok x → MeansScalar (one_key_object (codes "$code") d) x
code_from d x h = let t = text_then d _ x h in means_by (codes "$code") d _ x _ t.1 (un_ok _ _ t.2) (code t.0)
