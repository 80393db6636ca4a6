pub mod HostPayloads
