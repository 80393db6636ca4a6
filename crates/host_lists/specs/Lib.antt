pub mod Answers
pub mod Tags
pub use Rattle.release_core
