pub mod ClearedBits
pub mod OrderLemmas
pub mod VectorLaws
pub mod VectorMeaning
pub mod IdOrder
pub mod Sorting
pub mod SortedText
pub mod IdOrderParts
pub mod HexLaws
pub mod UuidLaws
mod UuidWriting
pub mod Base64Laws
mod DigitTable
pub mod ByteRanges
pub mod Offered
