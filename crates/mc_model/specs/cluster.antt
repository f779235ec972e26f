-- The cluster: worlds, runs, and what is said of them.
pub mod World
pub mod Steps
pub mod Assembly
pub mod Stores
pub mod Fate
pub mod Loose
pub mod Decrees
