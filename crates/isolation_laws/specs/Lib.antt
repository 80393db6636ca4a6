pub mod Laws
pub mod Solo
pub mod Unlawful
pub use Rattle.device_rules
