pub mod Convert
pub mod InOrder
pub mod Attempts
pub mod Difference
pub mod Run
pub mod Messages
-- what public clauses cite of the crates below, so that a caller names this crate alone
pub use Rattle.bson_model.specs.TextMeaning
pub use Rattle.bson_model.specs.Means
pub use Rattle.bson_model.specs.Value
pub use Rattle.serde_json.specs.Data
