-- The laws of the source that the crates above use.
pub use Rattle.bson_bytes.proofs.Loop.{stopped_at, keys_back_more}
