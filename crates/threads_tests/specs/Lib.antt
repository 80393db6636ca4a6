pub mod Desks
pub mod Hosting
pub mod Tally
