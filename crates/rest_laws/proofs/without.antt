pub mod Entries
pub mod Resting
pub mod Staying
pub mod Stepping
pub mod Delivered
