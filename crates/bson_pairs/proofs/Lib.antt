pub mod ComingBack
pub mod Texts
mod OnceMore
pub mod Seen
