pub mod Accounts
pub mod Routes
pub mod Laws
