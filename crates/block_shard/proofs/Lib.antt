pub mod Entered
pub mod MadeChanges
pub mod Places
