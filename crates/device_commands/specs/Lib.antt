pub mod ClearEventRecords
pub mod Drafts
pub mod GetEventRecords
pub mod ListDrafts
pub mod ShownFlags
pub use Rattle.device_rules
pub use Rattle.host_lists
