pub mod Messages
pub mod Payloads
pub use Rattle.dcd_base
