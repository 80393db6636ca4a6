pub mod Drawing
pub mod Generated
pub use Rattle.script_codec
