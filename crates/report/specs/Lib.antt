pub mod Printing
pub mod Refusals
pub mod Texts
pub use Rattle.control_core
pub use Rattle.control_core.specs.device_rules
pub use Rattle.script_codec
pub use Rattle.control_core.specs.kept_journal
