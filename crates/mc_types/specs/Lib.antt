pub mod Nodes
pub mod Texts
