pub mod Answers
pub mod InOrder
pub mod Offerings
pub mod Parting
pub mod Responses
