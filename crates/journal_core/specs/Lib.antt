pub mod Accesses
pub mod Entries
pub mod Holders
pub mod Merging
pub mod Seen
