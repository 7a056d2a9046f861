mod Accepted
mod Again
mod Normalized
mod CanonicalTexts
mod Converting
mod Deep
mod Differences
mod EitherOrder
mod Newline
pub mod Offered
mod Ordered
mod Rows
mod Twice
mod TwiceInOrder
