pub mod Sections
pub mod Unknown
pub mod Nodes
pub mod Routes
pub mod Lines
