pub mod States
pub mod Responses
pub mod Faults
pub mod Windows
pub mod Session
pub mod Table
pub mod Steps
pub mod Laws
