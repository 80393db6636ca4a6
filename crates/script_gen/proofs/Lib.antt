pub mod Configured
pub mod Counting
pub mod Made
pub mod RoundSteps
pub mod Sound
pub mod Stepping
