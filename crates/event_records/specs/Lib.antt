pub mod Records
pub use Rattle.dcd_base
