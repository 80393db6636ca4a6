mod AllRan
mod Choices
mod Decisions
mod Fronts
pub mod LineActors
mod LinesRan
pub mod NewPassesReady
mod Printed
mod Takings
mod WordItems
