-- The laws that the crates above use. No other file of these proofs is cited from outside.
pub use Rattle.bson_datetime.proofs.DateRange.{named_fits}
pub use Rattle.bson_datetime.proofs.NamesLaws.{denotes-names}
pub use Rattle.bson_datetime.proofs.RoundTrip.{named_moment-rfc}
pub use Rattle.bson_datetime.proofs.MillisText.{named_moment-millis}
pub use Rattle.bson_datetime.proofs.DisplayedLemmas.{rfc-fields}
pub use Rattle.bson_datetime.proofs.TextLength.{rfc-length}
