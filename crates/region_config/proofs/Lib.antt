pub mod Blocks
pub mod Faultless
pub mod GranuleLemmas
pub mod Powers
pub mod PresentBlocks
pub mod Searches
pub mod WholeBlocks
