pub mod ManagerLaws
pub mod ManagerWritten
