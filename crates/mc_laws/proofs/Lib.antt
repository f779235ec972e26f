pub mod invariant
pub mod step
pub mod story
