pub mod Counting
pub mod Freeing
pub mod Regions
pub mod Scrubbed
