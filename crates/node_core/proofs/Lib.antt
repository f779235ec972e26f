pub use Rattle.node_kept.proofs.Crossing
pub use Rattle.node_kept.proofs.stopped.Stopped.TheSendSync as StoppedSendSync
pub use Rattle.node_kept.proofs.Listing
pub mod Opening
pub mod Loading
pub mod Unsaved
pub mod Saves
pub mod Stopping
pub mod Committing
pub mod Storing
pub mod Together
pub mod Restarts
pub mod Strange
pub mod Lists
