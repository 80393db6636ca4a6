pub mod Coding
pub mod Gathering
pub mod Keeping
pub mod Lending
pub mod Slots
pub mod Tokens
