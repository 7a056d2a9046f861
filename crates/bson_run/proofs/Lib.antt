pub mod AcceptedTexts
pub mod EncodeLaws
mod Explaining
mod Indenting
pub mod LinesLaws
pub mod LinesRuns
pub mod Offered
mod OneOutcome
mod OneOutput
pub mod OneRead
mod OneText
mod Parts
mod Rows
mod Rules
mod RunsInside
pub mod TakenLines
mod TwiceIndented
