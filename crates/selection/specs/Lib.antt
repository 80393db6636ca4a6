pub mod Selections
pub mod Picks
pub use Rattle.granule_map
