pub mod Built
pub mod Place
pub mod Shape
-- what public clauses cite of the crates below, so that a caller names this crate alone
pub use Rattle.bson_scalar.specs.Faults
pub use Rattle.bson_model.specs.Value
pub use Rattle.serde_json.specs.Data
pub use Rattle.serde_json.specs.View as Trees
