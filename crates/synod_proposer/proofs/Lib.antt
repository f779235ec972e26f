pub mod Promises
pub mod Rounds
