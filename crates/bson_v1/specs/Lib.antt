pub mod LeadingMembers
pub mod Upgraded
pub mod WrittenTokens
pub mod Text
pub mod Version1
pub mod BareWords
-- what public clauses cite of the crates below, so that a caller names this crate alone
pub use Rattle.bson_tokens.specs.Normalized
pub use Rattle.bson_tokens.specs.DuplicateKeys
pub use Rattle.bson_tokens.specs.ReadOutcomes
