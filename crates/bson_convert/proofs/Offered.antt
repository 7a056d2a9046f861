-- The lemmas that the crates above may use.
pub use Rattle.bson_convert.proofs.Normalized.{accepted, accepted_in_order, text_alike}
pub use Rattle.bson_convert.proofs.Deep.{parsed_whole, shallow, text_parsed, whole}
pub use Rattle.bson_convert.proofs.Differences.{no_difference, one_difference}
pub use Rattle.bson_convert.proofs.EitherOrder.{text_converts_by}
pub use Rattle.bson_convert.proofs.Newline.{read_then, tokens_then}
pub use Rattle.bson_convert.proofs.Twice.{again}
pub use Rattle.bson_convert.proofs.TwiceInOrder.{again_in_order, kept_by, line_read}
