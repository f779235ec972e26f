pub mod Optional
pub mod Runs
pub mod Handling
