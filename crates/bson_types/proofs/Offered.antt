-- The laws that the crates above use. No other file of these proofs is cited from outside.
pub use Rattle.bson_types.proofs.Base64Laws.{base64_to, padded}
pub use Rattle.bson_types.proofs.ByteRanges.{base64_bytes, hex_bytes}
pub use Rattle.bson_types.proofs.HexLaws.{sized_from, sized_to}
pub use Rattle.bson_types.proofs.SortedText.{sorted_regex_options-again}
pub use Rattle.bson_types.proofs.UuidLaws.{hyphenated_from, hyphenated_to, long_is_hyphenated, parsed_from, parsed_to}
