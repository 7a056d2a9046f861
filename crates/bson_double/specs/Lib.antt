pub mod FiniteDoubles
pub mod ShortestDecimal
pub mod DoubleText
pub mod Limbs
