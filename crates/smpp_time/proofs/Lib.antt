pub mod Days
pub mod Dates
pub mod Texts
pub mod Years
pub mod Written
