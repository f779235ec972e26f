pub mod Kept
pub mod Packets
pub mod Others
pub mod Rules
pub mod Staying
