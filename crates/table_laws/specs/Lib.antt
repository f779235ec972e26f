-- One node by itself, to which its packets are delivered until none is left, against a table of chains.
pub mod Alone
pub mod Tables
pub mod Resting
pub mod Settling
pub mod Ticks
pub mod Attempts
pub mod Events
pub mod Examples
