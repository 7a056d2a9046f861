pub mod Normalized
pub mod NormalizerStates
pub mod DuplicateKeys
pub mod DuplicateKeyPath
pub mod PutMembers
pub mod FirstFault
pub mod WrapperContent
pub mod ReadOutcomes
pub mod KeyPrefix
pub mod ValueStart
pub mod TextErrors
-- what public clauses cite of the crates below, so that a caller names this crate alone
pub use Rattle.bson_tokens.specs.ReadOutcomes
pub use Rattle.json.specs.Strict
pub use Rattle.bson_tree.specs.Place
pub use Rattle.serde_json.specs.Read
