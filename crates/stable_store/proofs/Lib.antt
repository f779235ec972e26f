pub mod Lists
pub mod Groups
