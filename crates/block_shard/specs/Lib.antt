pub use Rattle.shard_laws.specs.ruled_cells
pub use Rattle.shard_laws.specs.device_rules
pub use Rattle.shard_laws
pub use Rattle.journal_core
