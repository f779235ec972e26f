pub mod Frames
pub mod Calls
pub mod Laws
