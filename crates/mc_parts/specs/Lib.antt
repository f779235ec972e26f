pub mod Telling
pub mod Example
pub mod FirstMessage
