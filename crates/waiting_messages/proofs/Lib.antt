pub mod Standing
pub mod Spreading
pub mod Remembering
pub mod Queueing
pub mod Firsts
