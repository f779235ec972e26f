pub mod Starts
pub mod Hearing
pub mod Anew
pub mod Known
pub mod Gone
pub mod FirstMessage
pub mod All
