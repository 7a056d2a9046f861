pub mod Accepted
pub mod Diagnostic
pub mod Encode
pub mod Indent
pub mod Lines
pub mod LinesSteps
pub mod Outcomes
pub mod ErrorMessages
pub mod Preprocessed
pub mod TaskNames
-- what public clauses cite of the crates below, so that a caller names this crate alone
pub use Rattle.bson.specs.TextMeaning
pub use Rattle.bson.specs.View
pub use Rattle.bson_model.specs.Means
pub use Rattle.bson_model.specs.Value
pub use Rattle.bson_codec.specs.Canonical
pub use Rattle.serde_json.specs.Data
