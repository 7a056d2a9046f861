pub mod ReadToMemory
pub mod ReadErrors
pub mod WriteErrors
pub mod Streams
pub mod Diagnostics
pub mod DumpRuns
pub mod DocumentText
pub mod PackedText
pub mod WriterSinks
-- what public clauses cite of the crates below, so that a caller names this crate alone
pub use Rattle.bson_bytes.specs.Grammar
pub use Rattle.bson_bytes.specs.ReadDocuments
pub use Rattle.bson_bytes.specs.Reading as Bytes
pub use Rattle.bson_bytes.specs.Writing as Canonical
pub use Rattle.bson_bytes.specs.declared.error.Error as Unwritten
pub use Rattle.bson.specs.View
pub use Rattle.bson_model.specs.OrderedTexts
