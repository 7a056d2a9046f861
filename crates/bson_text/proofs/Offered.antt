-- The laws that the crates above use. No other file of these proofs is cited from outside.
pub use Rattle.bson_text.proofs.Once.{once_is}
pub use Rattle.bson_text.proofs.SortedPairs.{put_in_turn, once_sorted}
