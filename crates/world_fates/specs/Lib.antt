pub mod Laws
pub mod Receipts
pub mod Deliveries
pub mod Refusals
pub mod Questions
pub mod Requests
pub mod Runs
pub mod Example
