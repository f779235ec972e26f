pub mod Settling
pub mod Replies
pub mod Receipts
pub mod GivenOut
pub mod Askers
mod OnSession
pub mod Ending
