pub mod Notes
pub mod Voters
