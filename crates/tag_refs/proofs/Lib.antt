mod Changing
mod Stores
pub mod Tagged
