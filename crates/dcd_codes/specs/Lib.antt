pub mod Names
pub mod Rules
pub use Rattle.dcd_base
