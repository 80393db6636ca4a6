mod Acts
pub mod AlikePlans
pub mod AlikeSteps
mod AllActs
pub mod Allowed
mod AllowedParts
pub mod Answering
pub mod ClosedTags
pub mod Counted
pub mod Cutting
mod DeadHosts
mod Demanded
pub mod Emptying
pub mod Filters
pub mod FreeBlocks
pub mod FreeOffers
pub mod GivingBack
pub mod Heard
pub mod Keeping
pub mod KeptLogs
pub mod LastBytes
pub mod LettingGo
mod Meeting
mod OnlyRoom
pub mod Parts
mod PartsGivenBack
pub mod PrivateTags
mod Providing
pub mod RealTags
mod RegionsEmptied
mod RemovalHeard
mod Room
pub mod RoomAlone
mod Stillness
pub mod Succeeding
pub mod TagsKept
pub mod Telling
mod ToldExtents
mod UnbrokenActs
mod Walks
pub mod WholeOffers
pub mod WholeTags
mod WithoutFault
pub mod Zipped
