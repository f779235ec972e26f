pub mod Calendar
pub mod Texts
pub mod Dates
