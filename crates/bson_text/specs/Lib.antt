pub mod ErrorDenials
pub mod OutputTexts
pub mod KeyBytes
pub mod ScopeTokens
pub mod MemberSpans
pub mod ErrorPaths
pub mod RejectedText
pub mod DisplayOutput
pub mod SortedOutput
pub mod TraversalErrors
pub mod TextOutput
pub mod TraversalResults
-- what public clauses cite of the crates below, so that a caller names this crate alone
pub use Rattle.bson_model.specs.OrderedTexts
