pub mod AddDynamicCapacityResponse
pub mod HostDrafts
pub mod ListedExtents
pub mod ReleaseDynamicCapacity
