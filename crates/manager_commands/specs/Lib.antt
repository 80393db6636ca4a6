pub mod GetDcRegionExtentLists
pub mod GetHostDcRegionConfiguration
pub mod InitiateDynamicCapacityAdd
pub mod InitiateDynamicCapacityRelease
pub mod ManagerMessages
pub mod Scrub
pub mod SetDcRegionConfiguration
pub use Rattle.device_state
