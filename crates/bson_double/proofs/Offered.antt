-- The laws that the crates above use. No other file of these proofs is cited from outside.
pub use Rattle.bson_double.proofs.Exists.{has_shortest, none_above, beside, floor_under, floor_over, low_taken}
pub use Rattle.bson_double.proofs.Exists.{high_taken}
pub use Rattle.bson_double.proofs.Found.{IsPositive, step_pos}
pub use Rattle.bson_double.proofs.Patterns.{bits_back, bits_of_finite, finite_value, not_nan_bits}
pub use Rattle.bson_double.proofs.Scaled.{read_by_bits}
pub use Rattle.bson_double.proofs.TextLaws.{json_number, one_text, parses, read_back}
