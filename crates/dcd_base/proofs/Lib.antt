pub mod Agreement
pub mod EventCommands
pub mod Fields
pub mod Filling
pub mod HostBits
pub mod Passing
pub mod PayloadLengths
pub mod Pieces
pub mod Places
pub mod WholeExtents
pub mod Widths
mod Parts
