pub mod Entries
pub mod Packets
pub mod Stepping
pub mod Staying
pub mod Shut
