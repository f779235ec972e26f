pub use Rattle.node_core.proofs.Lists
pub use Rattle.node_core.proofs.Restarts
pub mod Inputs
pub mod Running
pub mod Happening
