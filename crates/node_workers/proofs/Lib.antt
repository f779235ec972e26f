pub use Rattle.node_threads.proofs.LifeSendSync
pub use Rattle.node_threads.proofs.Crossing
pub mod Behind
