pub mod Posting
pub mod Told
pub mod Written
pub mod Heeding
pub mod Sites
pub mod Standing
pub mod Asking
pub mod Grantings
