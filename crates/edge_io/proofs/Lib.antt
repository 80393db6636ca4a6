pub mod Endings
pub mod Fronts
pub mod Inputs
pub mod Keeping
pub mod NoWords
pub mod WordNumbers
mod Digits
