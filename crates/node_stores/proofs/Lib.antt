pub mod Crossing
pub mod Reversed
