pub mod FreeToLeave
pub mod Lengths
pub mod Members
pub mod Rows
