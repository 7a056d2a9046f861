pub mod Beginnings
pub mod Values
pub mod Shapes
pub mod Passing
pub mod Complete
pub mod Objects
pub mod Version1Laws
pub mod Words
