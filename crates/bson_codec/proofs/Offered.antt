-- The laws that the crates above use. No other file of these proofs is cited from outside.
pub use Rattle.bson_codec.proofs.Added.{two_added, three_added}
pub use Rattle.bson_codec.proofs.Inside.{ends_inside}
pub use Rattle.bson_codec.proofs.Utf8.{dump_utf8, diagnostic_utf8}
