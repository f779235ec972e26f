pub mod Deciding
pub mod Hearing
pub mod Queued
pub mod Settling
pub mod Starting
pub mod Walks
pub mod Numbers
