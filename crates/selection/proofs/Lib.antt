pub mod Agreeing
pub mod Chosen
pub mod Placed
pub mod Prescribed
