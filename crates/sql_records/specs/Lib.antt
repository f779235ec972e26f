pub mod Standing
pub mod Stores
pub mod Calls
pub mod Noting
