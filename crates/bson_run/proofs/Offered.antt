-- The laws that the crates above use. No other file of these proofs is cited from outside.
pub use Rattle.bson_run.proofs.OneRead.{not_taken, one_taken}
