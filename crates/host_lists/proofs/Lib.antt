pub mod Departures
pub mod Offered
pub mod TagCounting
