pub mod ClearEventRecords
pub mod OneRecord
pub mod RegionPages
pub mod ShownRegions
