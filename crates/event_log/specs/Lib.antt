pub mod LogStates
pub mod Logs
