pub mod Counts
pub mod Hearing
