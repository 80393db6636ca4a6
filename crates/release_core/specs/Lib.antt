pub mod Leaving
pub mod Releases
pub mod Removals
