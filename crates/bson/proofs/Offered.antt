-- The laws that the crates above use. No other file of these proofs is cited from outside.
pub use Rattle.bson.proofs.Each.{each_is}
pub use Rattle.bson.proofs.Weights.{weight, weight_items, weight_pairs, lighter_item}
