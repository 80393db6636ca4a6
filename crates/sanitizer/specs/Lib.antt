pub mod Turns
pub use Rattle.granule_map
