pub mod Votes
pub mod Packets
pub mod Records
pub mod Applied
pub mod Verdicts
pub mod Laws
