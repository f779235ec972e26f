pub mod Waiting
pub mod Ticked
pub mod Asleep
