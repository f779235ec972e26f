pub mod Grows
pub mod Rounds
