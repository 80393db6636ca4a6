pub mod Blocks
pub mod Configurations
pub mod Granules
pub mod Setups
pub mod Soundness
pub use Rattle.dcd_base
