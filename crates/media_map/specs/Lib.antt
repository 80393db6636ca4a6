pub mod Places
pub use Rattle.region_config
