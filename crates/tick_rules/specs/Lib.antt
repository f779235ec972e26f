pub mod Attempts
pub mod Standpoints
pub mod Dues
pub mod Reaching
pub mod Waking
pub mod Seen
