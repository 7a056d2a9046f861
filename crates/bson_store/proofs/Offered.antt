-- The laws that the crates above use. No other file of these proofs is cited from outside.
pub use Rattle.bson_store.proofs.Adjacent.{distinct_from}
pub use Rattle.bson_store.proofs.Distinct.{absent-before, at-get, drop-at, get-at, length-same_keys, no_other}
pub use Rattle.bson_store.proofs.Distinct.{take-next}
pub use Rattle.bson_store.proofs.Found.{get-absent, get-place, place-within, put-absent, put-place}
pub use Rattle.bson_store.proofs.Least.{find-in_order}
pub use Rattle.bson_store.proofs.Turns.{lacks, length-in_order}
