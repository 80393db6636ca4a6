pub mod ManagerPayloads
