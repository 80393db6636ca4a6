pub mod Ends
pub mod Later
pub mod Lists
pub mod Puts
pub mod ReplyLists
