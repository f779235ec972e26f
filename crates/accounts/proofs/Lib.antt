pub mod Named
pub mod Longest
