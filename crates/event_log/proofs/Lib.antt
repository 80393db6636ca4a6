mod Clearing
pub mod Histories
