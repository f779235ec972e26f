pub mod Together
pub mod Behind
pub mod Decided
pub mod OneReceipt
pub mod Announced
pub mod Receiving
pub mod Assembly
pub mod Openings
