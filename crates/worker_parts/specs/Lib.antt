pub mod Queue
pub mod Attempts
