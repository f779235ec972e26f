pub mod Tellings
pub mod Sessions
pub mod Laws
pub mod Example
