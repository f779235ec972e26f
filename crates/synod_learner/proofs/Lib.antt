pub mod Chains
pub mod Counts
pub mod Hearing
pub mod Messages
pub mod Recounts
