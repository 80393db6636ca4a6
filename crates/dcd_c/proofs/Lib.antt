pub mod LooseValues
pub mod PlaceValues
mod ResponseParts
mod MapSteps
mod RunSteps
mod Filling
mod OfferSteps
mod RecordSteps
mod TagSteps
mod BaseSteps
mod Spelled
