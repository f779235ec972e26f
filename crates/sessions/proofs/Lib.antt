pub mod Firsts
pub mod Tickets
pub mod Kept
