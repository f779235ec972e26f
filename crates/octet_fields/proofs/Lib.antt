pub mod Octets
pub mod Parameters
pub mod Fields
pub mod Records
