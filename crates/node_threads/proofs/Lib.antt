pub use Rattle.node_core.proofs.life.Life.TheSendSync as LifeSendSync
pub mod CarriedSlips
pub mod Behind
pub mod Refused
pub mod Openings
pub mod Loadings
pub mod Crossing
