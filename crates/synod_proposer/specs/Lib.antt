pub mod Proposing
pub mod Promises
pub mod Rounds
