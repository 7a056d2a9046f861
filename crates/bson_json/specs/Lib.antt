pub mod Grammar
pub mod Corners
pub mod Characters
pub mod Sequence
