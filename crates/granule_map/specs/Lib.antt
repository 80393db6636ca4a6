pub mod Blocks
pub mod Choices
pub mod Counts
pub mod Parts
pub mod StateLists
pub mod Stretches
pub mod Tables
pub mod Told
