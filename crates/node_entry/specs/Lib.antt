pub mod Copies
pub mod Taking
