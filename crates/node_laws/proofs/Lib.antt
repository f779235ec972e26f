pub mod invariant
pub mod step
pub mod cluster
