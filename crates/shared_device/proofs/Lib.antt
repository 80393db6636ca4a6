mod ActorLists
mod ClosedJournal
mod EnteringSteps
mod Fresh
mod LentJournal
mod NewPasses
mod Rests
mod ToldCalls
pub mod Turns
mod TurnsBack
mod Visits
mod WeighedCalls
