pub mod Crossing
pub mod Multiples
pub mod Rounding
