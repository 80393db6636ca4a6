pub mod AreaBlocks
pub mod Changes
mod Counting
mod Flags
pub mod Joining
pub mod Kept
pub mod Marked
pub mod NextOfLanes
pub mod NoneFree
pub mod PartsReplaced
pub mod Ranges
pub mod RunSteps
pub mod Stretches
mod TableRanges
