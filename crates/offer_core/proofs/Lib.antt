pub mod Parts
pub mod Completeness
pub mod Counting
pub mod NoOffer
pub mod Owners
pub mod Rows
