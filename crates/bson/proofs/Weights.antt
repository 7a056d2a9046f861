-- How much a value holds, for the measures of the crates above.
use Rattle.std.proofs.Common.{ℕ, ◌+◌, ◌<◌, zero, suc, List, [], ◌∷◌, length, get_or, arith}
use Rattle.bson_model.specs.Value.{Value, Values, no_values, value, Pairs, no_pairs, pair, scalar, code_scope, array}
use Rattle.bson_model.specs.Value.{document}
use Rattle.bson.specs.declared.bson.Bson.{Bson}
use Rattle.bson.specs.View.{bson_view, values_view}

abbrev mutual
  pub weight : Value → ℕ
  weight (scalar x) = 0
  weight (code_scope s ps) = 1 + weight_pairs ps
  weight (array vs) = 1 + weight_items vs
  weight (document ps) = 1 + weight_pairs ps

  pub weight_items : Values → ℕ
  weight_items no_values = 0
  weight_items (value v vs) = 2 + weight v + weight_items vs

  pub weight_pairs : Pairs → ℕ
  weight_pairs no_pairs = 0
  weight_pairs (pair k v ps) = 2 + weight v + weight_pairs ps

pub lighter_item : (vs : List Bson) (i : ℕ) (v : Bson) → i < length vs
    → 1 + weight (bson_view (get_or vs i v)) < weight_items (values_view vs)
lighter_item [] i v lt = absurd (omega arith)
lighter_item (w ∷ vs) zero v lt = omega arith
lighter_item (w ∷ vs) (suc i) v lt = let h = lighter_item vs i v (omega arith) in omega (arith, h)
