pub mod Times
pub mod Desk
pub mod Admissions
pub mod Arrivals
pub mod Laws
