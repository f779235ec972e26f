pub use Rattle.fate_chain.specs.States
pub mod Targets
pub mod Due
pub mod Kept
pub mod Outcomes
pub mod Deliveries
