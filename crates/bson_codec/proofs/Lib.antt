pub mod Added
pub mod Seen
pub mod Listed
pub mod Distinct
pub mod Ends
pub mod ElementLaws
pub mod Typed
pub mod Streams
pub mod Runs
pub mod Justified
pub mod Lengths
pub mod OneDump
pub mod Inside
pub mod Offered
pub mod Utf8
mod AscendingTrees
mod Normalized
pub mod Once
pub mod Put
pub mod Whole
pub mod WriterSinks
pub mod Unsorted
pub mod WrittenTexts
