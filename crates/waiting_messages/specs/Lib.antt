pub mod Accounts
pub mod Spreads
pub mod Presences
pub mod Lanes
pub mod Attempts
pub mod Queues
pub mod Backlogs
pub mod Named
