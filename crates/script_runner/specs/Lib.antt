pub mod Arrivals
pub mod Sites
pub mod Centres
pub mod Faults
pub mod Outcome
