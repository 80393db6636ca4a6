pub mod Ends
pub mod Meanings
pub mod ReadEnds
pub mod Runs
pub mod Settling
pub mod Untold
pub mod Words
