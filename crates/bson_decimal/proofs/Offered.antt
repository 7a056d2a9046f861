-- The laws that the crates above use. No other file of these proofs is cited from outside.
pub use Rattle.bson_decimal.proofs.Parsing.{finite-parses, refused-parses, special-parses}
pub use Rattle.bson_decimal.proofs.DisplayedLaws.{display_text-canon, display_text-parses, display_text-same}
pub use Rattle.bson_decimal.proofs.ParsedForm.{parses-form}
pub use Rattle.bson_decimal.proofs.TextLength.{display_text-length}
