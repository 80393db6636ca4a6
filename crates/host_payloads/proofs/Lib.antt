pub mod Asked
pub mod HostLaws
pub mod PageLaws
pub mod Shapes
pub mod Written
